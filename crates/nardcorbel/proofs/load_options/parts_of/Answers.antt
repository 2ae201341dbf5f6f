-- No part ends beyond the end of the load option.
use Rattle.std.proofs.Common.{arith, refl}
use Rattle.uefi_device_path.specs.PathLists.{list_bytes}
use Rattle.uefi_device_path.specs.Views.{entry_of}
use Rattle.nardcorbel.proofs.Options.{parts_fit}
use Rattle.nardcorbel.proofs.load_options.parts_of.Goals as goal

pub overflow_mul-path_list_offset : goal.overflow_mul-path_list_offset
overflow_mul-path_list_offset c =
    let entry = entry_of c.args.option.now in
    omega (
      arith,
      parts_fit entry _ (list_bytes entry.paths) c.requires c.description_units.ensures.units refl,
      c.len-description_length.ensures,
    )

pub overflow_add-path_list_offset-2 : goal.overflow_add-path_list_offset-2
overflow_add-path_list_offset-2 c =
    let entry = entry_of c.args.option.now in
    omega (
      arith,
      parts_fit entry _ (list_bytes entry.paths) c.requires c.description_units.ensures.units refl,
      c.len-description_length.ensures,
    )

pub overflow_add-result : goal.overflow_add-result
overflow_add-result c =
    let entry = entry_of c.args.option.now in
    omega (
      arith,
      parts_fit entry _ c.file_path_list-path_list_size.result.now c.requires
          c.description_units.ensures.units c.file_path_list-path_list_size.ensures,
      c.len-description_length.ensures,
    )
