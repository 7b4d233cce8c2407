-- What the proofs of several functions use.
mod CodeLaws
mod ListLaws
mod CheckThenPage
