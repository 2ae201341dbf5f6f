-- Where there is room the buffer begins with the items, and these decide.
use Rattle.std.proofs.Common.{arith}
use Rattle.std.proofs.Math.Seq.{take-append_seam}
use Rattle.uefi_text.proofs.unaligned_slice.UnalignedSlice+u16.write_cstr16.Goals as goal

pub returns-in-Ok-clause-accepts : goal.returns-in-Ok-clause-accepts
returns-in-Ok-clause-accepts c =
    let exact = rw (c.copy_to_prefix.ensures, c.len-len.ensures, take-append_seam) at c.in-Ok.ensures.accepts in
    (λ yes. (exact.0 yes, omega arith), λ fine. exact.1 fine.0)

pub returns-in-Err-clause-accepts : goal.returns-in-Err-clause-accepts
returns-in-Err-clause-accepts c =
    let exact = rw (c.copy_to_prefix.ensures, c.len-len.ensures, take-append_seam) at c.in-Err.ensures.accepts in
    (λ yes. (exact.0 yes, omega arith), λ fine. exact.1 fine.0)
