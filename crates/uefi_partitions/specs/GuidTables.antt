-- GUID partition tables (UEFI Specification 2.10, sections 5.3.2 and 5.3.3).
use Rattle.std.specs.Prelude.{ℕ, ◌+◌, ◌-◌, ◌*◌, ◌/◌, ◌%◌, ◌==◌, nat_eq, nat_lt, Bool, ◌&&◌, ◌||◌, not, if◌then◌else◌, List, [], ◌∷◌, ◌++◌, codes, length, slice_range, take, replicate, max, Option, Some, None, Result, Ok, Err}
use Rattle.std.specs.Int.{is_power_of_two}
use Rattle.std.specs.List.{starts_with}
use Rattle.uefi_text.specs.Packed.{packed_items}
use Rattle.uefi_partitions.specs.Crc32.{crc32}
use Rattle.uefi_partitions.specs.StoredFields.{stored_bytes, stored_number}
use Rattle.uefi_partitions.specs.declared.errors.GptError.{GptError}
use Rattle.uefi_partitions.specs.declared.errors.GptError.TheVariants.{ShortBlock, NoSignature, Revision, HeaderSize, HeaderChecksum, OtherBlock, EntrySize, ShortEntries, EntriesChecksum}
use Rattle.uefi_partitions.specs.declared.errors.PartitionError.{PartitionError}
use Rattle.uefi_partitions.specs.declared.errors.PartitionError.TheVariants.{NoEntry, Unused, Outside}
use Rattle.uefi_partitions.specs.declared.partition.Partition.{Partition}
use Rattle.uefi_partitions.specs.declared.partition.PartitionTable.TheVariants.{Gpt}

-- the checksum of a header of `size` bytes, of which its own checksum counts as zeros
abbrev pub header_crc : List ℕ → ℕ → ℕ
header_crc block size = crc32 (take 16 block ++ (replicate 4 0 ++ slice_range block 20 size))

-- whether an entry is not in use: its type is zero
abbrev pub is_unused_entry : List ℕ → Bool
is_unused_entry entry = starts_with nat_eq entry (replicate 16 0)

-- the 36 units of the name in an entry
abbrev pub entry_name : List ℕ → List ℕ
entry_name entry = packed_items 2 36 (stored_bytes 56 72 entry)

-- 128 times a power of two
abbrev pub is_entry_size : ℕ → Bool
is_entry_size size = not (nat_lt size 128) && ((size % 128 == 0) && is_power_of_two (size / 128))

-- why a block is not the header of a GPT at the block with this number, or none
abbrev pub header_refusal : List ℕ → ℕ → Option GptError
header_refusal block number =
    if nat_lt (length block) 92 then Some ShortBlock
    else if not (starts_with nat_eq block (codes "EFI PART")) then Some NoSignature
    else if not (stored_number 8 4 block == 0x10000) then Some Revision
    else if nat_lt (stored_number 12 4 block) 92 || nat_lt (length block) (stored_number 12 4 block)
    then Some HeaderSize
    else if not (stored_number 16 4 block == header_crc block (stored_number 12 4 block))
    then Some HeaderChecksum
    else if not (stored_number 24 8 block == number) then Some OtherBlock
    else if not (is_entry_size (stored_number 84 4 block)) then Some EntrySize
    else None

-- how many bytes the entries have that a header describes
abbrev pub entries_length : List ℕ → ℕ
entries_length header = stored_number 80 4 header * stored_number 84 4 header

-- why bytes do not begin with the entries that a header describes, or none
abbrev pub entries_refusal : List ℕ → List ℕ → Option GptError
entries_refusal header bytes =
    if nat_lt (length bytes) (entries_length header) then Some ShortEntries
    else if not (stored_number 88 4 header == crc32 (take (entries_length header) bytes))
    then Some EntriesChecksum
    else None

-- whether a table has an entry with this number
abbrev pub has_entry : List ℕ → ℕ → Bool
has_entry header number = not (nat_lt number 1) && not (nat_lt (stored_number 80 4 header) number)

-- the bytes of the entry with this number
abbrev pub entry_at : List ℕ → List ℕ → ℕ → List ℕ
entry_at header bytes number =
    stored_bytes ((number - 1) * stored_number 84 4 header) (stored_number 84 4 header) bytes

-- the type of an EFI system partition, C12A7328-F81F-11D2-BA4B-00A0C93EC93B
abbrev pub system_type : List ℕ
system_type = 0x28 ∷ 0x73 ∷ 0x2a ∷ 0xc1 ∷ 0x1f ∷ 0xf8 ∷ 0xd2 ∷ 0x11
    ∷ 0xba ∷ 0x4b ∷ 0x00 ∷ 0xa0 ∷ 0xc9 ∷ 0x3e ∷ 0xc9 ∷ 0x3b ∷ []

-- whether the blocks of an entry are usable, and end after they begin. Block 0 has the MBR
abbrev pub is_within_usable : List ℕ → List ℕ → Bool
is_within_usable header entry =
    not (nat_lt (stored_number 32 8 entry) (max 1 (stored_number 40 8 header)))
    && (not (nat_lt (stored_number 40 8 entry) (stored_number 32 8 entry))
    && not (nat_lt (stored_number 48 8 header) (stored_number 40 8 entry)))

-- the partition of an entry
abbrev pub gpt_partition_of : ℕ → List ℕ → Partition
gpt_partition_of number entry = record {
  number = number;
  start = stored_number 32 8 entry;
  size = stored_number 40 8 entry - stored_number 32 8 entry + 1;
  signature = stored_bytes 16 16 entry;
  table = Gpt;
  is_system = starts_with nat_eq entry system_type;
}

-- the partition with a number, or why there is none
abbrev pub gpt_partition : List ℕ → List ℕ → ℕ → Result Partition PartitionError
gpt_partition header bytes number =
    if not (has_entry header number) then Err NoEntry
    else if is_unused_entry (entry_at header bytes number) then Err Unused
    else if not (is_within_usable header (entry_at header bytes number)) then Err Outside
    else Ok (gpt_partition_of number (entry_at header bytes number))
