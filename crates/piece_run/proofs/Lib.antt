pub mod Remaking
pub mod TwoPhases
pub mod ClauseTies
pub mod EndCarries
mod KeysNext
pub mod OrderedNext
mod GroupKeys
mod Driving
mod Bridges
mod EndFalls
mod DriverCarries
mod DriverTells
mod ToldBelow
mod Within
pub mod WholeRuns
pub mod LinesMeant
pub mod Numbering
pub mod Frames
pub mod InputRuns
mod FlworStages
mod FlworParts
mod FlworMeant
mod FlworEnds
mod SharedClauses
mod Crossing
mod LoneRuns
mod LeadingLets
mod Closing
mod LeafClosed
mod LeafMeans
mod NamesFound
mod Passing
mod LeafValues
mod LoneCrossing
