use Rattle.std.proofs.Common.{arith}
use Rattle.uefi_device_path.specs.Views.{option_entry}
use Rattle.uefi_device_path.proofs.OptionBytes.{long-entry_bytes}
use Rattle.uefi_device_path.proofs.load_option_builder.LoadOptionBuilder.put.Goals as goal

pub split_at_mut-description-requires : goal.split_at_mut-description-requires
unfolding option_entry
split_at_mut-description-requires c =
    omega (arith, long-entry_bytes (option_entry c.args.self.now), c.requires.whole, c.split_at_mut-header.ensures.back_len)

pub copy_from_slice-requires : goal.copy_from_slice-requires
unfolding option_entry
copy_from_slice-requires c =
    omega (
      arith,
      long-entry_bytes (option_entry c.args.self.now),
      c.requires.whole,
      c.requires.list,
      c.split_at_mut-header.ensures.back_len,
      c.split_at_mut-description.ensures.back_len,
      c.split_at_mut-listed.ensures.back_len,
    )
