-- What the contracts of writing cite.
pub mod Write
pub mod RoundTrip
