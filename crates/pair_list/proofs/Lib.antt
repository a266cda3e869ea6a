mod MorePairs
