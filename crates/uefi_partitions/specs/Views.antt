-- What a borrowed value shows. Other crates see these words alone, and no field.
use Rattle.std.specs.Prelude.{ℕ, List}
use Rattle.uefi_partitions.specs.declared.gpt.GptHeader.{GptHeader}
use Rattle.uefi_partitions.specs.declared.gpt_entries.GptEntries.{GptEntries}
use Rattle.uefi_partitions.specs.declared.gpt_entries.GptEntry.{GptEntry}
use Rattle.uefi_partitions.specs.declared.mbr.Mbr.{Mbr}

-- the block of a header
unfoldable pub gpt_block : GptHeader → List ℕ
gpt_block header = header.block.now

-- the block of the header that describes entries
unfoldable pub entries_header : GptEntries → List ℕ
entries_header entries = entries.header.now

-- the bytes that begin with the entries
unfoldable pub gpt_array : GptEntries → List ℕ
gpt_array entries = entries.array.now

-- the bytes of an entry
unfoldable pub gpt_entry : GptEntry → List ℕ
gpt_entry entry = entry.entry.now

-- the block of an MBR
unfoldable pub mbr_block : Mbr → List ℕ
mbr_block mbr = mbr.block.now
