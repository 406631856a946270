-- the chunks of a file, in lines: `info_of`
mod Informing
-- blocks of rows: `put_raster`
mod Rows
-- meters that are only ticked: `only_ticks`, `never_falls`
mod Ticking
-- what is put for a page: `put_page`
mod Putting
-- failures after others
mod Cutting
-- libraries of which some files were read
mod Known
-- numbers of pages: `begin`
mod Apart
-- before anything is read: `begin`
mod Beginning
-- the order in which files are read
mod Ordering
-- pages are no more than names: `draw_pages`
mod Few
-- pages that are over
mod Over
-- what a core counts, once its pages are over: `draw_pages`
mod Counting
-- what a core and its meter count
mod Rising
-- steps of a page, and their lines: `to_halt`
mod Halting
-- a step of a page: `to_halt`
mod Stepping
-- files by their numbers
mod Flags
-- files that the core was fed: `read`
mod Feeding
-- what was read, with one more file: `open`, `draw`
mod Extending
-- files that weren't read yet: `open`, `draw`
mod Unread
-- a run that goes on at one page: `open`, `draw`
mod Onward
-- a page's own file: `open`
mod Opening
-- the files that a page needs, and its steps: `draw`
mod Paging
-- what was drawn of a page so far: `draw`
mod OnPage
-- where a page halts
mod Halted
-- a page that is drawn to its end: `draw`
mod Ending
-- from one file that a page needs to the next: `draw`
mod Needing
-- a page, with what is put for it: `draw_page`
mod OnePage
-- pages one after another, and what they come to: `draw_pages`
mod AllPages
mod Drawn
-- the lines of one file: `list_page`
mod Showing
-- one file after others: `list_pages`
mod Joining
-- files by number and by name: `show_pages`
mod Numbering
-- what stands before the pages: `find_front`
mod Starting
-- a whole run: `run`, `laws::sound_folders`
mod Running
-- `laws::others_have_no_work`
mod Working
-- `laws::unrefused_pages_are_drawn`
mod Finishing
-- `laws::statuses_tell`
mod Stating
