-- Open files of the file system.
use Rattle.djvu_outside.specs.Reading.{Opened}
use Rattle.djvu_outside.specs.declared.real_folder.Reader.{Reader}

abbrev pub opened_of : {F : Type 0} → Reader F → Opened
opened_of reader = record { name = reader.name; position = reader.position }
