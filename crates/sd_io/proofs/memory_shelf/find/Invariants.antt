use Rattle.std.proofs.Common.{◌≡◌, drop}
use Rattle.sd_io.specs.Files.{file_named}
use Rattle.sd_io.proofs.memory_shelf.find.Given as goal

-- what is looked for isn't among the files passed
abbrev pub invariant-loop-file : goal.invariant-loop-file
invariant-loop-file l = file_named l.name (drop l.file-index l.files) ≡ file_named l.name l.files
