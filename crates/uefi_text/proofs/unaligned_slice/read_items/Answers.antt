-- Each place holds the item of its block, and after the last place that is all of both.
use Rattle.std.proofs.Common.{◌≡◌, ◌∙◌, ◌+◌, ◌-◌, ◌*◌, ◌++◌, ◌∷◌, [], ap, sym, get_or, length, map, take, arith}
use Rattle.std.proofs.lemmas.List.{map-append, take_all, take_more, take_more_set}
use Rattle.std.proofs.lemmas.Grind.{common_steps}
use Rattle.uefi_text.specs.Packed.{packed_items}
use Rattle.uefi_text.proofs.Packing.{get_or-packed_items, length-packed_items}
use Rattle.uefi_text.proofs.unaligned_slice.read_items.Goals as goal

pub loop-place-preserved : goal.loop-place-preserved
loop-place-preserved g c =
    let number = g.T.Packed.number in
    let size = g.T.Packed.SIZE in
    let count = length c.args.dest.now in
    let items = packed_items size count c.args.bytes.now in
    let place = c.loop-place.place in
    let long : place * size + size - place * size ≡ size = omega arith in
    let at = get_or-packed_items size count c.args.bytes.now place c.loop-place-test.true in
    let item : number c.read_le.result ≡ get_or items place 0 = grind (arith, common_steps) in
    let places = ap (map number) (take_more_set c.loop-place.dest place c.read_le.result (omega arith)) in
    let split = map-append number (take place c.loop-place.dest) (c.read_le.result ∷ []) in
    let more = take_more items place 0 (omega (arith, length-packed_items size count c.args.bytes.now)) in
    places ∙ split ∙ ap (λ xs. xs ++ number c.read_le.result ∷ []) c.loop-place.invariant ∙ ap (λ n. take place items ++ n ∷ []) item ∙ sym more

pub returns : goal.returns
returns g c =
    let len = length c.args.dest.now in
    let count = length-packed_items g.T.Packed.SIZE len c.args.bytes.now in
    let places = take_all c.loop-place.place c.loop-place.dest (omega arith) in
    let items = take_all c.loop-place.place (packed_items g.T.Packed.SIZE len c.args.bytes.now) (omega arith) in
    cc
