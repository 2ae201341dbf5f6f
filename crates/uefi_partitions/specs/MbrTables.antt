-- Master boot records (UEFI Specification 2.10, section 5.2.1).
use Rattle.std.specs.Prelude.{ℕ, ◌+◌, ◌*◌, ◌==◌, nat_lt, Bool, ◌||◌, not, if◌then◌else◌, List, ◌∷◌, length, replicate, slice_index, Option, Some, None, Result, Ok, Err}
use Rattle.uefi_partitions.specs.StoredFields.{stored_number}
use Rattle.uefi_partitions.specs.declared.errors.MbrError.{MbrError}
use Rattle.uefi_partitions.specs.declared.errors.MbrError.TheVariants.{ShortBlock, NoSignature}
use Rattle.uefi_partitions.specs.declared.errors.PartitionError.{PartitionError}
use Rattle.uefi_partitions.specs.declared.errors.PartitionError.TheVariants.{NoEntry, Unused, Protective}
use Rattle.uefi_partitions.specs.declared.partition.Partition.{Partition}
use Rattle.uefi_partitions.specs.declared.partition.PartitionTable.TheVariants.{Mbr}

-- why a block is no MBR, or none
abbrev pub mbr_refusal : List ℕ → Option MbrError
mbr_refusal block =
    if nat_lt (length block) 512 then Some ShortBlock
    else if not (slice_index block 510 == 0x55) || not (slice_index block 511 == 0xaa)
    then Some NoSignature
    else None

-- where the record with a number begins: the first of the four at 446, and each has 16 bytes
abbrev pub record_offset : ℕ → ℕ
record_offset number = 430 + 16 * number

-- the type in a record
abbrev pub os_type : List ℕ → ℕ → ℕ
os_type block number = slice_index block (record_offset number + 4)

-- whether one of the records protects a GPT
abbrev pub is_protective : List ℕ → Bool
is_protective block =
    (os_type block 1 == 0xee)
    || ((os_type block 2 == 0xee) || ((os_type block 3 == 0xee) || (os_type block 4 == 0xee)))

-- the signature of a disk, as a device path has it
abbrev pub mbr_signature : List ℕ → List ℕ
mbr_signature block = slice_index block 440 ∷ slice_index block 441 ∷ slice_index block 442
    ∷ slice_index block 443 ∷ replicate 12 0

-- the partition of a record
abbrev pub mbr_partition_of : List ℕ → ℕ → Partition
mbr_partition_of block number = record {
  number = number;
  start = stored_number (record_offset number + 8) 4 block;
  size = stored_number (record_offset number + 12) 4 block;
  signature = mbr_signature block;
  table = Mbr;
  is_system = os_type block number == 0xef;
}

-- the partition with a number, or why there is none
abbrev pub mbr_partition : List ℕ → ℕ → Result Partition PartitionError
mbr_partition block number =
    if nat_lt number 1 || nat_lt 4 number then Err NoEntry
    else if (os_type block number == 0) || (stored_number (record_offset number + 12) 4 block == 0)
    then Err Unused
    else if os_type block number == 0xee then Err Protective
    else Ok (mbr_partition_of block number)
