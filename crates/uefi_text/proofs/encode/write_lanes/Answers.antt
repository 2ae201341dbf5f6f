-- Lanes take the places of as many units.
use Rattle.std.proofs.Common.{◌≡◌, ◌++◌, ◌∙◌, List, ℕ, ap, arith, drop, length, take}
use Rattle.std.proofs.lemmas.List.{drop-drop}
use Rattle.std.proofs.lemmas.Simd.{put_chunk_is}
use Rattle.uefi_text.proofs.encode.write_lanes.Goals as goal

pub returns : goal.returns
returns c =
    let units = c.args.units.now in
    let place = c.args.place in
    let lanes = c.args.lanes in
    let long : length lanes ≡ 8 = omega arith in
    put_chunk_is place units lanes (omega (arith, long, c.requires))
    ∙ ap (λ (rest : List ℕ). take place units ++ (lanes ++ rest)) (drop-drop (length lanes) place units ∙ ap (λ k. drop k units) (omega (arith, long)))
