-- What is printed of errors.
use Rattle.std.specs.Prelude.{ℕ, List, codes}
use Rattle.uefi_partitions.specs.declared.errors.GptError.{GptError}
use Rattle.uefi_partitions.specs.declared.errors.GptError.TheVariants as gpt
use Rattle.uefi_partitions.specs.declared.errors.MbrError.{MbrError}
use Rattle.uefi_partitions.specs.declared.errors.MbrError.TheVariants as mbr
use Rattle.uefi_partitions.specs.declared.errors.PartitionError.{PartitionError}
use Rattle.uefi_partitions.specs.declared.errors.PartitionError.TheVariants.{NoEntry, Unused, Protective, Outside}

-- the text of an error for a block that is no MBR
abbrev pub mbr_error_text : MbrError → List ℕ
mbr_error_text mbr.ShortBlock = codes "MBR: block has fewer than 512 bytes"
mbr_error_text mbr.NoSignature = codes "MBR: no signature 55 AA at byte 510"

-- the text of an error for a block that is no header of a GPT, or bytes that are not its entries
abbrev pub gpt_error_text : GptError → List ℕ
gpt_error_text gpt.ShortBlock = codes "GPT header: block has fewer than 92 bytes"
gpt_error_text gpt.NoSignature = codes "GPT header: no signature EFI PART"
gpt_error_text gpt.Revision = codes "GPT header: revision is not 1.0"
gpt_error_text gpt.HeaderSize = codes "GPT header: invalid header size"
gpt_error_text gpt.HeaderChecksum = codes "GPT header: checksum does not match"
gpt_error_text gpt.OtherBlock = codes "GPT header: belongs to another block"
gpt_error_text gpt.EntrySize = codes "GPT header: invalid entry size"
gpt_error_text gpt.ShortEntries = codes "GPT entries: too few bytes"
gpt_error_text gpt.EntriesChecksum = codes "GPT entries: checksum does not match"

-- the text of an error for a partition that a table does not have
abbrev pub partition_error_text : PartitionError → List ℕ
partition_error_text NoEntry = codes "partition number is not in the table"
partition_error_text Unused = codes "partition entry is not in use"
partition_error_text Protective = codes "partition entry only protects a GPT"
partition_error_text Outside = codes "partition is outside the usable blocks"
