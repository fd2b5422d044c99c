mod Jumping
mod Effects
mod Sequencing
mod Bodies
mod Controlling
