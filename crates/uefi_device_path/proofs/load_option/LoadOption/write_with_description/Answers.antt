-- The paths are those of the load option, and a string holds no NUL.
use Rattle.std.proofs.Common.{◌≢◌, All, subst}
use Rattle.uefi_device_path.proofs.load_option.LoadOption.write_with_description.Goals as goal

pub returns-clause-entry : goal.returns-clause-entry
returns-clause-entry c =
    let entry = c.put_described.ensures.entry in
    record { no_nul = subst (All (λ unit. unit ≢ 0)) c.as_slice.ensures.same c.as_slice.ensures.no_nul; are_paths = entry.are_paths; some = entry.some }
