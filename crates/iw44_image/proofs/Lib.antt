-- The lemmas of this crate; above each stand the laws whose clauses it ends in.
-- laws headers_stay, more_bytes_only_go_on, decisions_of_a_chunk_are_bounded
mod Growing
-- law complete_chunks_are_answered
mod Completing
-- laws layers_go_on, layers_grow
mod Listing
-- law sizes_are_checked_first
mod Checking
-- full_samples, half_samples, Samples::colour, picture_samples
mod Painting
-- open_chunk, read_version, read_sizes, Start::behind
mod Beginning
-- PlaneReaders::advance
mod PlaneSteps
-- Stepping
mod Going
-- Choosing, Giving, Advancing: steps through the slices of a chunk
mod Stepping
mod Choosing
-- what stays true of an image
mod Soundness
-- IwImage::end_chunk, IwImage::chunk_begin
mod Giving
-- IwImage::read_slice
mod Advancing
-- IwImage::read_header, IwImage::begin
mod Headed
-- law told_sizes_are_checked
mod Sizing
-- IwImage::push
mod Pushing
-- IwImage::make_planes
mod PlaneMaking
-- IwImage::advance
mod Looping
