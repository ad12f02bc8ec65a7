mod Fits
mod Grounds
mod Keeping
mod Settling
mod Sounds
