mod Frames
mod Walks
mod BothLanes
mod HeldWalks
mod IdCounts
mod SingleRounds
mod Watching
mod Ending
