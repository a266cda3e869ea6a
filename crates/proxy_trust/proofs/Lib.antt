mod Chains
mod Parts
mod Places
