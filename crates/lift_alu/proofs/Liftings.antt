-- Liftings whose steps are selectable: what is computed, loaded, stored and set, and then what comes behind.
use Rattle.std.proofs.Common.{ℕ, suc, ◌+◌, ◌<◌, ◌≤◌, List, ◌∷◌, ◌++◌, length, refl, sym, subst, inl, inr, arith}
use Rattle.std.specs.List.{AllByRecursion}
use Rattle.x64_syntax.specs.declared.operand.Width.{Width}
use Rattle.limm_ir.specs.Conditions.{end_reads, IsEndInRange, IsSize}
use Rattle.limm_ir.specs.declared.block.IrEnd.{IrEnd}
use Rattle.limm_ir.specs.declared.step.IrStep.{IrStep}
use Rattle.lift_alu.specs.Formulas.{Formula, Kept, Lifting, done, size, place, computes, keeps, sets_register, sets_flag, loads, stores}
use Rattle.lift_alu.specs.Flags.{CF, ZF, SF, OF, top, sets_result, sets_flags}
use Rattle.lift_alu.proofs.Tame.{Among, Tame, ended, dropped, setting, acting}
use Rattle.lift_alu.proofs.Modest.{own, beside, beside_more, keep_first, place_among, beside_count, own_room, computed, Within, within_more}
use Rattle.lift_alu.proofs.Bounds.{kept_within, top_within, zero_within}

module _ (end : IrEnd) where
  -- the steps of a lifting are tame, wherever its temporaries begin
  abbrev pub TameLifting : (live : List ℕ) (most : ℕ) → Lifting → Type 0
  TameLifting live most lifting = (next : ℕ) → Tame end live next most (lifting next)

  -- some temporaries are not read any more
  pub less_live : (live fewer : List ℕ) {most : ℕ} (l : Lifting) → ((t : ℕ) → Among fewer t → Among live t) → TameLifting fewer most l → TameLifting live most l
  less_live live fewer l grows tame next = dropped grows (tame next)

  -- nothing is left to do
  pub done_tame : (live : List ℕ) (most : ℕ) → AllByRecursion (Among live) (end_reads end) → IsEndInRange end → TameLifting live most done
  done_tame live most reads range next = ended reads range

  -- a formula that is computed before what comes behind
  module _ {live : List ℕ} {most_room most_price : ℕ} (e : Formula) (h : Within live most_room most_price e) (few : most_room + length live ≤ 6) where
    -- its place may be read where it has been computed
    beside_place : (next : ℕ) (t : ℕ) → Among (place next e ∷ live) t → Among (beside next e live) t
    beside_place next t (inl same) = subst (Among (beside next e live)) (sym same) (place_among next e live h.sound)
    beside_place next t (inr among) = beside_more next e live t among

    -- the steps of the formula, and then what is tame where its place may be read
    then_tame : (next most left : ℕ) (xs : List IrStep) → most_price + left ≤ most → Tame end (beside next e live) (next + size e) left xs
        → Tame end live next most (computes next e ++ xs)
    then_tame next most left xs cost rest = computed end e live next most left xs h.sound (omega (arith, h.in_room, few)) (omega (arith, h.in_price, cost)) rest

    -- its value is kept, where what comes behind may know which temporary has it
    pub keeps_at : (most left : ℕ) (rest : Formula → Lifting) (next : ℕ) → most_price + left ≤ most → Tame end (place next e ∷ live) (next + size e) left (rest (Kept (place next e)) (next + size e))
        → Tame end live next most (keeps e rest next)
    unfolding keeps
    keeps_at most left rest next cost tame = then_tame next most left _ cost (dropped (beside_place next) tame)

    -- its value is kept
    pub keeps_tame : (most left : ℕ) (rest : Formula → Lifting) → most_price + left ≤ most → ((t : ℕ) → TameLifting (t ∷ live) left (rest (Kept t)))
        → TameLifting live most (keeps e rest)
    keeps_tame most left rest cost tame next = keeps_at most left rest next cost (tame (place next e) (next + size e))

    -- a register gets its value
    pub sets_register_tame : (r most left : ℕ) (rest : Lifting) → r < 16 → suc (most_price + left) ≤ most → TameLifting live left rest → TameLifting live most (sets_register r e rest)
    unfolding sets_register
    sets_register_tame r most left rest is cost tame next =
        then_tame next most (suc left) _ (omega (arith, cost)) (acting refl (place_among next e live h.sound, tt) (λ known. is)
        (omega (arith, few, own_room e, h.in_room, beside_count next e live)) (omega arith) (dropped (beside_more next e live) (tame (next + size e))))

    -- a flag gets its value
    pub sets_flag_tame : (f most left : ℕ) (rest : Lifting) → f < 4 → suc (most_price + left) ≤ most → TameLifting live left rest → TameLifting live most (sets_flag f e rest)
    unfolding sets_flag
    sets_flag_tame f most left rest is cost tame next =
        then_tame next most (suc left) _ (omega (arith, cost)) (acting refl (place_among next e live h.sound, tt) (λ known. is)
        (omega (arith, few, own_room e, h.in_room, beside_count next e live)) (omega arith) (dropped (beside_more next e live) (tame (next + size e))))

    -- a load, where what comes behind may know which temporary has what is read
    pub loads_at : (at count most left : ℕ) (rest : Formula → Lifting) (next : ℕ) → IsSize count → own e + suc (length live) ≤ 6 → most_price + (2 + left) ≤ most
        → Tame end ((next + size e) ∷ live) (next + size e + 1) left (rest (Kept (next + size e)) (next + size e + 1)) → Tame end live next most (loads at count e rest next)
    unfolding loads
    loads_at at count most left rest next is room_left cost tame =
        let t = next + size e in
        then_tame next most (2 + left) _ cost (setting refl (place_among next e live h.sound, tt) (λ known. is)
        (omega (arith, room_left, beside_count next e live)) (omega arith) (omega arith)
        (dropped (keep_first live (beside next e live) (beside_more next e live) t) (subst (λ n. Tame end (t ∷ live) n left (rest (Kept t) (t + 1))) (omega arith) tame)))

    -- what is read at the address is kept
    pub loads_tame : (at count most left : ℕ) (rest : Formula → Lifting) → IsSize count → own e + suc (length live) ≤ 6 → most_price + (2 + left) ≤ most
        → ((t : ℕ) → TameLifting (t ∷ live) left (rest (Kept t))) → TameLifting live most (loads at count e rest)
    loads_tame at count most left rest is room_left cost tame next = loads_at at count most left rest next is room_left cost (tame (next + size e) (next + size e + 1))

  -- a value is written at an address
  pub stores_tame : (live : List ℕ) (at count address v most left : ℕ) (rest : Lifting) → IsSize count → Among live address → Among live v → length live ≤ 6 → 2 + left ≤ most
      → TameLifting live left rest → TameLifting live most (stores at count address v rest)
  unfolding stores
  stores_tame live at count address v most left rest is in_address in_v few cost tame next = acting refl (in_address, (in_v, tt)) (λ known. is) few (omega (arith, cost)) (tame next)

  -- OF, ZF and SF of a result, and all four flags
  module _ (live : List ℕ) (w : Width) (r : ℕ) (overflow : Formula) (few : 3 + length live ≤ 6) (in_r : Among live r) (h : Within live 3 6 overflow) where
    -- the sign of the result
    sign_within : Within live 3 2 (top w (Kept r))
    sign_within = top_within live {most_room = 3} {most_price = 0} w (Kept r) (omega arith) (within_more (omega arith) (omega arith) (kept_within live r in_r))

    pub sets_result_tame : (most left : ℕ) (rest : Lifting) → 14 + left ≤ most → TameLifting live left rest → TameLifting live most (sets_result w overflow (Kept r) rest)
    unfolding sets_result
    sets_result_tame most left rest cost tame =
        sets_flag_tame overflow h few OF most (7 + left) _ (omega arith) (omega (arith, cost))
        (sets_flag_tame _ (zero_within live r in_r) (omega (arith, few)) ZF (7 + left) (3 + left) _ (omega arith) (omega arith)
        (sets_flag_tame _ sign_within few SF (3 + left) left rest (omega arith) (omega arith) tame))

    pub sets_flags_tame : (carry : Formula) (most left : ℕ) (rest : Lifting) → Within live 3 7 carry → 22 + left ≤ most → TameLifting live left rest
        → TameLifting live most (sets_flags w overflow carry (Kept r) rest)
    unfolding sets_flags
    sets_flags_tame carry most left rest carried cost tame =
        sets_result_tame most (8 + left) _ (omega (arith, cost)) (sets_flag_tame carry carried few CF (8 + left) left rest (omega arith) (omega arith) tame)
