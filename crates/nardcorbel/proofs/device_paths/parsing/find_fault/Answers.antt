-- The text alone can be at fault: the path is the empty one.
use Rattle.std.proofs.Common.{◌≡◌, ◌∙◌, ap, Bool, true, false, List, ℕ, [], ◌∷◌, refl, Result, Ok, Err, if◌then◌else◌}
use Rattle.std.specs.Prelude.{Option, Some, None, nat_lt}
use Rattle.std.specs.Result.{result_err}
use Rattle.std.proofs.lemmas.List.Elements.{All-nil}
use Rattle.uefi_device_path.proofs.CheckedRuns.{path_is_read}
use Rattle.uefi_device_path.specs.Nodes.{IsInner, Node}
use Rattle.uefi_device_path.specs.Building.{path_length, text_refusal}
use Rattle.uefi_device_path.specs.StyledReading.{path_read}
use Rattle.uefi_device_path.specs.Paths.{BeginWithPath, path_bytes}
use Rattle.uefi_device_path.specs.PushedPaths.{Leaves, bytes_unless, once_read}
use Rattle.uefi_device_path.specs.declared.text.text_errors.PushTextError.{PushTextError}
use Rattle.uefi_device_path.specs.declared.text.text_errors.PushTextError.TheVariants.{BufferTooSmall, NoNode}
use Rattle.uefi_device_path.specs.declared.text.text_errors.TextFault.{TextFault}
use Rattle.nardcorbel.specs.DevicePathTexts.{fault_in}
use Rattle.nardcorbel.proofs.device_paths.parsing.find_fault.Goals as goal

abbrev empty : List ℕ
empty = 0x7f ∷ 0xff ∷ 4 ∷ 0 ∷ []

begins : BeginWithPath empty []
begins = ([], record { inner = All-nil IsInner; join = refl })

abbrev fault_of : Result ℕ PushTextError → Option TextFault
fault_of (Ok len) = None
fault_of (Err error) = fault_in error

-- the fault that is found is that of the text, which has none if it is read
found : (read : Result (List Node) TextFault) (given : Result ℕ PushTextError) (old new : List ℕ)
    → Leaves (once_read NoNode read (λ others. bytes_unless (text_refusal [] others 4) (path_bytes others))) old given new
    → fault_of given ≡ result_err read
found (Err fault) given old new (gave, kept) = ap fault_of gave
found (Ok others) given old new left = by (nat_lt 4 (path_length others)) left
  where
    by : (short : Bool) → Leaves (bytes_unless (if short then Some (BufferTooSmall (path_length others)) else None) (path_bytes others)) old given new
        → fault_of given ≡ None
    by true (gave, kept) = ap fault_of gave
    by false (gave, wrote) = ap fault_of gave

pub returns-in-Err : goal.returns-in-Err
returns-in-Err g c = c.fault_in.ensures
    ∙ found (path_read c.args.style (g.T.Text.bytes c.args.text)) (Err c.in-Err.error) _ _ (rw (path_is_read empty [] begins) at c.in-Err.ensures)

pub returns-in-Ok : goal.returns-in-Ok
returns-in-Ok g c =
    found (path_read c.args.style (g.T.Text.bytes c.args.text)) (Ok c.in-Ok.field-0) _ _ (rw (path_is_read empty [] begins) at c.in-Ok.ensures)
