-- The lemmas that this crate's proofs share.
mod Checks
mod Entries
mod LoadsBack
mod Numerals
mod OwnBytes
mod Reading
mod RoundTrips
