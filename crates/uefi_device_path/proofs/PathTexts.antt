-- A list of texts that is printed piece by piece.
use Rattle.std.proofs.Common.{◌≡◌, ◌∙◌, ap, sym, ℕ, List, [], ◌∷◌, ◌++◌, append_assoc}
use Rattle.std.proofs.lemmas.List.{append-nil}
use Rattle.std.specs.List.{flat_map, join_by}

-- the first piece
pub first_piece : {X : Type 0} (text : X → List ℕ) (sep : List ℕ) (all xs : List X) (x : X)
    → all ≡ x ∷ xs → text x ++ flat_map (λ y. sep ++ text y) xs ≡ join_by text sep all
first_piece text sep all xs x is = ap (λ zs. join_by text sep zs) (sym is)

-- one piece more
pub after_more : {X : Type 0} (text : X → List ℕ) (sep so_far all : List ℕ) (xs ys : List X) (x : X)
    → so_far ++ flat_map (λ y. sep ++ text y) xs ≡ all → xs ≡ x ∷ ys
    → (so_far ++ (sep ++ text x)) ++ flat_map (λ y. sep ++ text y) ys ≡ all
after_more text sep so_far all xs ys x rest is =
    append_assoc so_far (sep ++ text x) (flat_map (λ y. sep ++ text y) ys)
    ∙ ap (λ zs. so_far ++ flat_map (λ y. sep ++ text y) zs) (sym is) ∙ rest

-- no piece more
pub after_none : {X : Type 0} (text : X → List ℕ) (sep so_far all : List ℕ) (xs : List X)
    → so_far ++ flat_map (λ y. sep ++ text y) xs ≡ all → xs ≡ [] → so_far ≡ all
after_none text sep so_far all xs rest is =
    sym (append-nil so_far) ∙ ap (λ zs. so_far ++ flat_map (λ y. sep ++ text y) zs) (sym is) ∙ rest
