-- What the proofs of several functions use.
mod Saying
mod Answering
