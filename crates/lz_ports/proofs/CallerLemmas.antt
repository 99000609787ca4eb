-- What a caller of this crate cites, in the order in which a command meets it. What the shelf in memory holds after a `put` is said by `Stored`.
use Rattle.std.proofs.Common.{◌≡◌, ℕ, ◌≤◌, ◌^◌, ◌-◌, List, arith, sym, ◌∙◌, ap, subst}
use Rattle.std.specs.Prelude.{Option, Some, None, IfSome}
use Rattle.lz_ports.specs.Ports.{Files, Rose, IsPut, IsTorn, Told, Took, TookPart}

-- a count that rose later rose
pub rose_later : (a b c : ℕ) → a ≤ b → Rose b c → Rose a c
rose_later a b c low rose = omega (arith, rose)

-- a count that rose before rose
pub rose_before : (a b c : ℕ) → b ≤ c → Rose a b → Rose a c
rose_before a b c low rose = omega (arith, rose)

-- a count that rose and is the same stands at its last value
pub rose_is_last : (a b : ℕ) → a ≡ b → Rose a b → 2 ^ 64 - 1 ≤ a
rose_is_last a b same rose = omega (arith, rose)

-- what was got, under another name for the same bytes
pub got_same : (files : Option Files) (name items bytes : List ℕ) → bytes ≡ items → IfSome files (λ f. f name ≡ Some items) → IfSome files (λ f. f name ≡ Some bytes)
got_same None name items bytes same got = got
got_same (Some f) name items bytes same got = got ∙ ap Some (sym same)

-- what a `put` after a `get` left, as seen from before both
pub put_after_get : (old got new : Option Files) (name bytes other : List ℕ) → got ≡ old → bytes ≡ other → Told got new (IsPut name bytes) → Told old new (IsPut name other)
put_after_get old got new name bytes other same file told =
    subst (λ (fs : Option Files). Told fs new (IsPut name other)) same (subst (λ (b : List ℕ). Told got new (IsPut name b)) file told)

-- the same of a `put` that failed
pub torn_after_get : (old got new : Option Files) (name bytes other : List ℕ) → got ≡ old → bytes ≡ other → Told got new (IsTorn name bytes) → Told old new (IsTorn name other)
torn_after_get old got new name bytes other same file told =
    subst (λ (fs : Option Files). Told fs new (IsTorn name other)) same (subst (λ (b : List ℕ). Told got new (IsTorn name b)) file told)

-- what was taken, under another name for the same text
pub took_same : (old new : Option (List ℕ)) (text written : List ℕ) → text ≡ written → Told old new (Took text) → Told old new (Took written)
took_same old new text written same told = subst (λ (t : List ℕ). Told old new (Took t)) same told

-- the same of a write that failed
pub took_part_same : (old new : Option (List ℕ)) (text written : List ℕ) → text ≡ written → Told old new (TookPart text) → Told old new (TookPart written)
took_part_same old new text written same told = subst (λ (t : List ℕ). Told old new (TookPart t)) same told
