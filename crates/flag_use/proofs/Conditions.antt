-- A condition is decided by the flags that it reads.
use Rattle.std.proofs.Common.{◌≡◌, ◌≢◌, ◌<◌, ◌-◌, ◌%◌, ℕ, true, ◌⊎◌, inl, inr, refl, sym, subst, arith}
use Rattle.alu_width.specs.declared.flags.Flags.{Flags}
use Rattle.alu_width.specs.Conditions.{condition, even_condition}
use Rattle.flag_use.specs.declared.flag.Flag.{Flag}
use Rattle.flag_use.specs.declared.flag.Flag.TheVariants.{Cf, Zf, Sf, Of}
use Rattle.flag_use.specs.Instructions.{even_reads, flag_value, ConditionsAreDecided}

-- the even codes of conditions, O, B, Z, BE, S, L and LE
abbrev IsEven : ℕ → Type 0
IsEven e = (e ≡ 0) ⊎ ((e ≡ 2) ⊎ ((e ≡ 4) ⊎ ((e ≡ 6) ⊎ ((e ≡ 8) ⊎ ((e ≡ 12) ⊎ (e ≡ 14))))))

even_of : (code : ℕ) → code < 16 → code ≢ 10 → code ≢ 11 → IsEven (code - code % 2)
even_of code small one other = grind arith

module _ (f g : Flags) where
  -- the flags that the condition of an even code reads are the same
  abbrev Agree : ℕ → Type 0
  Agree e = (flag : Flag) → even_reads flag e ≡ true → flag_value flag f ≡ flag_value flag g

  abbrev Decided : ℕ → Type 0
  Decided e = Agree e → even_condition e f ≡ even_condition e g

  decided : (e : ℕ) → IsEven e → Decided e
  decided e (inl is) = subst Decided (sym is) (λ agree. agree Of refl)
  decided e (inr (inl is)) = subst Decided (sym is) (λ agree. agree Cf refl)
  decided e (inr (inr (inl is))) = subst Decided (sym is) (λ agree. agree Zf refl)
  decided e (inr (inr (inr (inl is)))) = subst Decided (sym is) (λ agree. let c = agree Cf refl in let z = agree Zf refl in cc)
  decided e (inr (inr (inr (inr (inl is))))) = subst Decided (sym is) (λ agree. agree Sf refl)
  decided e (inr (inr (inr (inr (inr (inl is)))))) = subst Decided (sym is) (λ agree. let s = agree Sf refl in let o = agree Of refl in cc)
  decided e (inr (inr (inr (inr (inr (inr is)))))) =
      subst Decided (sym is) (λ agree. let z = agree Zf refl in let s = agree Sf refl in let o = agree Of refl in cc)

pub conditions_decided : ConditionsAreDecided
unfolding condition
conditions_decided c is f g agree =
    let same = decided f g (c.code - c.code % 2) (even_of c.code is.0 is.1.0 is.1.1) agree in cc
