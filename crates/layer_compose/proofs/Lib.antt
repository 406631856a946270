-- The lemmas of this crate, lowest first; above each stand the functions and laws whose clauses it ends in, or the files that cite it.
-- laws reductions_are_least; Layers::colour_at
mod Reducing
-- Colour::lay_run, lay_layer, widen, Layers::row_by_steps; Masking, CodedRows
mod Laying
-- lay_masked, lay_digits
mod Masking
-- Layers::drawn_colour; laws turns_go_round, samples_come_from_layers
mod Turning
-- Layers::compose, Layers::turned_rows, Layers::row, Layers::rows_by_steps; CodedRows; laws rows_make_the_raster
mod RowLists
-- Layers::row, Layers::rows, Layers::upright_rows, Layers::alike_rows, Layers::copied_rows, Layers::lay_behind, Layers::lay_in_front
mod CodedRows
-- Layers::preview; laws previews_fit
mod Steps
-- Layers::sum; laws sums_count_white, turning_changes_no_sum, white_without_layers
mod Summing
-- Layers::row_sum, sum_on, count_on, count_masked
mod SideSums
