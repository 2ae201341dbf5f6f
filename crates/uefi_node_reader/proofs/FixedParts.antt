-- The fixed part of a form's data, at the start of a buffer of 56 bytes.
use Rattle.std.proofs.Common.{◌≡◌, ℕ, ◌≤◌, take, true, leb, ltb, ◌&&◌, List, [], ◌∷◌, refl, ap, ◌∙◌, arith, slice_set}
use Rattle.std.proofs.Math.ListN.{replicate}
use Rattle.std.proofs.Math.Seq.{take-set-lt}
use Rattle.std.proofs.lemmas.List.{take-replicate}
use Rattle.std.proofs.lemmas.Bool.{and_parts, leb-true, lt-ltb, ltb-true}
use Rattle.uefi_device_nodes.specs.Rows.{Form}
use Rattle.uefi_node_reader.specs.TableReading.{are_within, blank, is_filled, put_all}

within_more : (n m : ℕ) (bytes : List (ℕ × ℕ)) → n ≤ m → are_within n bytes ≡ true → are_within m bytes ≡ true
within_more n m [] l e = refl
within_more n m (b ∷ bs) l e =
    let p = and_parts (ltb b.0 n) (are_within n bs) e in
    (λ i. lt-ltb b.0 m (let h = ltb-true b.0 n p.0 in omega (arith, h, l)) i && within_more n m bs l p.1 i)

take_put : (n : ℕ) (bytes : List (ℕ × ℕ)) (content : List ℕ) → are_within n bytes ≡ true
    → take n (put_all bytes content) ≡ put_all bytes (take n content)
take_put n [] content e = refl
take_put n (b ∷ bs) content e =
    let p = and_parts (ltb b.0 n) (are_within n bs) e in
    take_put n bs (slice_set content b.0 b.1) p.1
    ∙ ap (λ (l : List ℕ). put_all bs l) (take-set-lt n content b.0 b.1 (ltb-true b.0 n p.0))

module _ (form : Form) (filled : is_filled form ≡ true) where
  small : leb form.least 56 ≡ true
  small = (and_parts (leb form.least 56) (are_within form.least form.when && are_within form.least form.also) filled).0

  bytes : (are_within form.least form.when ≡ true) × (are_within form.least form.also ≡ true)
  bytes = and_parts (are_within form.least form.when) (are_within form.least form.also)
      (and_parts (leb form.least 56) (are_within form.least form.when && are_within form.least form.also) filled).1

  pub least_small : form.least ≤ 56
  least_small = leb-true form.least 56 small

  pub when_within : are_within 56 form.when ≡ true
  when_within = within_more form.least 56 form.when least_small bytes.0

  pub also_within : are_within 56 form.also ≡ true
  also_within = within_more form.least 56 form.also least_small bytes.1

  pub fixed_is : (content : List ℕ) → (let z : ℕ = 0 in content ≡ replicate 56 z) → take form.least (put_all form.also (put_all form.when content)) ≡ blank form
  fixed_is content e =
      take_put form.least form.also (put_all form.when content) bytes.1
      ∙ ap (λ (l : List ℕ). put_all form.also l) (take_put form.least form.when content bytes.0)
      ∙ ap (λ (l : List ℕ). put_all form.also (put_all form.when (take form.least l))) e
      ∙ ap (λ (l : List ℕ). put_all form.also (put_all form.when l)) (take-replicate form.least 56 0 least_small)
