pub mod Fillers
mod EndSt
pub mod EndDecl
mod EndEx
pub mod EndMode
mod SureEx
mod SureSteps
pub mod SureRun
mod Viable
pub mod FirstRefused
mod Full
mod FullLeads
mod FullFirst
mod FullOpened
mod FullReadEx
mod FullWholeEx
mod FullReadDecl
mod FullReadDecs
mod FullReadDeclaration
mod FullReadSt
mod FullWholeSt
mod FullReadItem
pub mod UniqueItem
pub mod UniqueFile
mod FullGood
mod FullSoundEx
mod FullSoundEnds
mod FullSoundSpecs
mod FullSoundDecls
mod FullSoundSt
mod FullSoundSteps
mod Sim
mod SimEx
mod SimSteps
mod Shadow
pub mod HighFirst
