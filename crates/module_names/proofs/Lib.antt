mod Reading
mod Starts
mod HeadRows
mod LoadingRows
pub mod LoadedFiles
mod LoadingRules
mod Steps
mod Answering
mod Stepping
mod Finding
mod Bodies
mod Finishing
mod WorldSources
