mod Arrivals
mod Comers
mod LastPolls
mod Listed
