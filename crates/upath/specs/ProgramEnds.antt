-- What a program that ends with a run over streams tells whoever started it.
use Rattle.std.specs.Prelude.{ℕ, List, [], Option, Some, None, codes}
use Rattle.upath.specs.declared.streams.StreamFault.{StreamFault}
use Rattle.upath.specs.declared.streams.StreamFault.TheVariants.{Read, Write, OutOfMemory}

-- the program's status, from the reason why the run ended early, if it did
abbrev pub status_after : Option StreamFault → ℕ
status_after None = 0
status_after (Some Read) = 2
status_after (Some Write) = 2
status_after (Some OutOfMemory) = 3

-- everything that the program writes to standard error
abbrev pub message_after : Option StreamFault → List ℕ
message_after (Some OutOfMemory) = codes "out of memory\n"
message_after _ = []
