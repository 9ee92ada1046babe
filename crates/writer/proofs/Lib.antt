mod Again
mod Back
mod Finds
mod Joins
mod Numbers
mod Puts
mod Rooms
mod Steps
