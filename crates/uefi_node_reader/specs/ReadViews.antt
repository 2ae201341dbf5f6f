-- What code reads, as a definition returns it: the value as a contract sees it, and the bytes of the rest of
-- the text.
use Rattle.std.specs.Prelude.{List, ℕ, Option, Result}
use Rattle.std.specs.Option.{option_map}
use Rattle.std.specs.Result.{result_map_both}

-- a value in this view
abbrev pub read_as : {V W T : Type 0} → (V → W) → (T → List ℕ) → Option (V × T) → Option (W × List ℕ)
read_as view bytes result = option_map (λ x. (view x.0, bytes x.1)) result

-- a value that a contract sees as it is
abbrev pub value_of : {V T : Type 0} → (T → List ℕ) → Option (V × T) → Option (V × List ℕ)
value_of bytes result = option_map (λ x. (x.0, bytes x.1)) result

-- the bytes that a buffer was filled with
abbrev pub filled_with : {V T : Type 0} → (T → List ℕ) → V → Option T → Option (V × List ℕ)
filled_with bytes found result = option_map (λ rest. (found, bytes rest)) result

-- a value in this view, or why nothing is read
abbrev pub read_or_err : {V W T E : Type 0} → (V → W) → (T → List ℕ) → Result (V × T) E
    → Result (W × List ℕ) E
read_or_err view bytes result = result_map_both (λ x. (view x.0, bytes x.1)) (λ e. e) result

-- only the rest of the text, or why nothing is read
abbrev pub rest_or_err : {T E : Type 0} → (T → List ℕ) → Result T E → Result (List ℕ) E
rest_or_err bytes result = result_map_both bytes (λ e. e) result
