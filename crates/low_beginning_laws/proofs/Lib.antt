mod Room
mod Above
mod RoomEx
mod RoomSteps
mod RoomRun
mod Close
mod CloseSt
mod CloseDecl
mod CloseEx
mod CloseMode
pub mod Low
