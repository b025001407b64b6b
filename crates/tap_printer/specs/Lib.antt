pub mod Canonical
pub mod CanonicalExprs
pub mod CanonicalLaws
pub mod PlacesAside
pub mod Printed
pub mod WorkedCanonical
pub mod inner
