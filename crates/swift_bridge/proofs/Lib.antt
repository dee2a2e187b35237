mod Edges
mod UpToDate
mod CutTrees
