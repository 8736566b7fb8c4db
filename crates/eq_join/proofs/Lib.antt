mod Comparisons
mod PairLists
mod KeyPlaces
mod Positions
