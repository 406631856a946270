-- The lemmas of this crate, lowest first; before each stand the functions and laws whose clauses it ends in, and the lemmas above it.
-- None is cited from above.
-- law ends
mod Finishing
-- the reading of what was given: laws of page_laws
-- Further, Comparing
mod Retaining
-- Coming, Acting, Comparing
mod Further
-- law growth of page_laws
mod Coming
-- Comparing
mod Acting
-- law growth of page_laws
mod Comparing
-- law acts of page_laws
mod Running
-- Ruling
mod Numbering
-- Needing
mod Ruling
-- law needs of page_laws
mod Needing
-- law needs of page_laws
mod Asking
-- Leaving
mod Headed
-- Showing, Serving, Drawable, Limiting
mod Leaving
-- law shows of page_laws
mod Showing
-- Serving
mod Including
-- law included_files of page_laws
mod Serving
-- Building
mod Ordered
-- Building, Working
mod GoingOn
-- laws results_are_the_librarys and libraries_go_on of page_laws
mod Building
-- laws libraries_go_on and closed_libraries of page_laws
mod Working
-- Limiting
mod Serials
-- law limits of page_laws
mod Limiting
-- laws of page_laws::chunks
mod Completing
mod Preparing
-- laws of page_laws::drawings; Drawable
mod Ascending
-- law drawable of page_laws::drawings
mod Drawable
-- laws of page_laws::made
mod Made
-- law faults_stand_in_files of page_laws
mod FaultPlaces
-- LayerReader::read, read_on; Tallying
mod Layering
-- LayerReader::push, advance
mod Tallying
-- ChunkReader::advance
mod Opening
-- Kept::close and what it calls
mod Laying
-- the resolving of includes: list_next, pass_files, go_on of Includes
mod ResolveSteps
-- finish; Entering
mod Stopping
-- enter
mod Beginning
-- enter
mod Entering
-- give_outline
mod GivenOutlines
-- the decoder: acts by events, what stays of first acts, entries
mod ActsByEvents
mod Onward
mod Entries
-- PageDecoder
mod Decoding
-- give_outline, give_file, end
mod Gifting
-- give_outline, give_file
mod Lessening
-- read_on
mod Reached
-- the functions of FileReader
mod Answering
mod Telling
mod Lifting
mod Looping
mod Sounding
mod Eventing
mod DataEvents
mod Bounded
mod Origins
-- at_close, at_form_end
mod FileEnds
-- ChunkEnds
mod ChunkCounts
mod ChunkEnds
mod Shutting
-- at_pause
mod Pausing
-- at_bytes_end
mod ByteEnds
-- decode_done: an included file has no drawing; what it gives
mod Drawless
mod Gifts
-- law plain_pages
mod PlainChunks
mod PlainPages
mod PlainFiles
