pub mod EarliestRefusals
mod Agreement
mod KeptDeclarations
mod KeptSpines
mod Nestings
mod Numbers
mod Rows
mod Scoped
mod Sound
mod TextOrder
pub mod Parts
pub mod Passing
pub mod Stacking
pub mod Testing
pub mod Scoping
pub mod TextKinds
pub mod Calling
pub mod TypeLists
pub mod Binds
pub mod Quantified
pub mod Streams
pub mod ClauseLoops
pub mod KeyLoops
pub mod Switches
pub mod Flwors
pub mod Typeswitches
pub mod Made
pub mod Lookups
pub mod Declaring
pub mod DeclaredVariables
pub mod DeclaredFunctions
pub mod VariableLoops
pub mod FunctionLoops
pub mod ParamLoops
pub mod Queries
