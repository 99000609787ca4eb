use Rattle.std.proofs.Common.{◌≡◌, ◌≢◌, ℕ, ◌<◌, ◌==◌, ◌-◌, Bool, true, false, List, length, refl, sym, ap, ◌∙◌, arith}
use Rattle.std.specs.Prelude.{slice_index, slice_set, if◌then◌else◌, replicate}
use Rattle.std.proofs.lemmas.List.{get_or-set_other, get_or-replicate}
use Rattle.std.proofs.lemmas.Grind.{get_or-set_at}
use Rattle.std.proofs.lemmas.Bool.{eqb-true}
use Rattle.std.proofs.lemmas.Bool.Decides.{nat_tests}
use Rattle.arm_replay.proofs.thread.start_state.Goals as goal

-- 31 registers, all 0 but for two
starts : (a b n : ℕ) → n < 31 → slice_index (slice_set (slice_set (replicate 31 0) 4 a) 7 b) n ≡ (if n == 4 then a else (if n == 7 then b else 0))
starts a b n lt = by (n == 4) refl (n == 7) refl
  where
    by : (four : Bool) → (n == 4) ≡ four → (seven : Bool) → (n == 7) ≡ seven
        → slice_index (slice_set (slice_set (replicate 31 0) 4 a) 7 b) n ≡ (if four then a else (if seven then b else 0))
    by true e true e' = absurd (omega (arith, eqb-true n 4 e, eqb-true n 7 e'))
    by true e false e' = ap (slice_index (slice_set (slice_set (replicate 31 0) 4 a) 7 b)) (eqb-true n 4 e)
    by false e true e' = ap (slice_index (slice_set (slice_set (replicate 31 0) 4 a) 7 b)) (eqb-true n 7 e')
    by false e false e' =
        let not_four : n ≢ 4 = (λ same. absurd (grind (arith, nat_tests))) in
        let not_seven : n ≢ 7 = (λ same. absurd (grind (arith, nat_tests))) in
        get_or-set_other (slice_set (replicate 31 0) 4 a) 7 n b 0 not_seven ∙ get_or-set_other (replicate 31 0) 4 n a 0 not_four ∙ get_or-replicate 31 n 0 0 lt

pub returns : goal.returns
returns c = record {
  at = refl;
  each = λ n lt. starts c.saturating_sub.result c.from.result n lt ∙ ap (λ v. if n == 4 then v else (if n == 7 then c.from.result else 0)) c.saturating_sub.ensures
      ∙ ap (λ v. if n == 4 then c.args.stack.hi - 8 else (if n == 7 then v else 0)) c.from.ensures;
  flags = refl;
  all = refl;
}
