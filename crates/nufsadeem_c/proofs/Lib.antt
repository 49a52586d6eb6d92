pub mod SamePromises
