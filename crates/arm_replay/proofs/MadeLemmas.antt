-- Items one behind the other: their names, counts and values.
use Rattle.std.proofs.Common.{◌≡◌, ℕ, suc, ◌+◌, ◌<◌, List, [], ◌∷◌, ◌++◌, length, refl, sym, ap, ◌∙◌, subst, arith, append_assoc, length-append}
use Rattle.ev_graph.specs.declared.events.Item.{Item}
use Rattle.ev_graph.specs.declared.events.Item.TheVariants as items
use Rattle.ev_graph.specs.Events.{accesses}
use Rattle.behavior.specs.Seen.{counted}
use Rattle.behavior.specs.Numbered.{numbered_from, numbered}
use Rattle.behavior.proofs.SeenLemmas.{counted-append}
use Rattle.exec_text.specs.declared.exec_file.Given.{Given}
use Rattle.arm_replay.specs.declared.made.Made.{Made}
use Rattle.arm_replay.specs.Values.{Takes}
use Rattle.arm_replay.specs.Faults.{EndsAtOnce}
use Rattle.arm_replay.specs.Walking.{Keeps}

pub accesses-append : (xs ys : List Item) → accesses (xs ++ ys) ≡ accesses xs ++ accesses ys
accesses-append [] ys = refl
accesses-append (items.Access a ∷ xs) ys = ap (λ l. a ∷ l) (accesses-append xs ys)
accesses-append (items.Fence f ∷ xs) ys = accesses-append xs ys
accesses-append (items.Input v ∷ xs) ys = accesses-append xs ys
accesses-append (items.Output v ∷ xs) ys = accesses-append xs ys

-- names go on behind the accesses before
pub numbered-append : (k i : ℕ) (xs ys : List Item) → numbered_from k i (xs ++ ys) ≡ numbered_from k i xs ++ numbered_from k (i + length (accesses xs)) ys
numbered-append k i [] ys = ap (λ j. numbered_from k j ys) (let e : i ≡ i + 0 = omega arith in e)
numbered-append k i (items.Access a ∷ xs) ys =
    let e : suc i + length (accesses xs) ≡ i + suc (length (accesses xs)) = omega arith in
    ap (λ l. items.Access (record a { id = record { thread = k; index = i } }) ∷ l)
    (numbered-append k (suc i) xs ys ∙ ap (λ j. numbered_from k (suc i) xs ++ numbered_from k j ys) e)
numbered-append k i (items.Fence f ∷ xs) ys = ap (λ l. items.Fence f ∷ l) (numbered-append k i xs ys)
numbered-append k i (items.Input v ∷ xs) ys = ap (λ l. items.Input v ∷ l) (numbered-append k i xs ys)
numbered-append k i (items.Output v ∷ xs) ys = ap (λ l. items.Output v ∷ l) (numbered-append k i xs ys)

-- what is kept when more is made
pub keeps_more : (k : ℕ) (is more : List Item) (m n : Made) → Keeps k is m → n.items.items ≡ m.items.items ++ numbered_from k m.accesses more
    → n.count ≡ m.count + counted more → n.accesses ≡ m.accesses + length (accesses more) → Keeps k (is ++ more) n
keeps_more k is more m n keeps items count index = record {
  items = items ∙ ap (λ l. l ++ numbered_from k m.accesses more) keeps.items ∙ ap (λ i. numbered k is ++ numbered_from k i more) keeps.index
      ∙ ap (λ i. numbered k is ++ numbered_from k i more) (let e : length (accesses is) ≡ 0 + length (accesses is) = omega arith in e)
      ∙ sym (numbered-append k 0 is more);
  many = count ∙ ap (λ n. n + counted more) keeps.many ∙ sym (counted-append is more);
  index = index ∙ ap (λ n. n + length (accesses more)) keeps.index ∙ sym (ap length (accesses-append is more) ∙ length-append (accesses is) (accesses more));
}

-- values are taken in order
pub takes-append : (xs ys : List Item) (values mid left : List Given) → Takes xs values mid → Takes ys mid left → Takes (xs ++ ys) values left
takes-append [] ys values mid left first second = subst (λ l. Takes ys l left) (sym first) second
takes-append (x ∷ xs) ys values mid left first second = (first.0, first.1, takes-append xs ys first.0 mid left first.2 second)

-- what ends at once still does behind other items
pub ends-append : (xs ys : List Item) → 0 < counted ys → EndsAtOnce ys → EndsAtOnce (xs ++ ys)
ends-append [] ys some ends = ends
ends-append (x ∷ xs) ys some ends = (let e = counted-append (x ∷ xs) ys in omega (arith, e, some), ends-append xs ys some ends)

-- lists one behind the other
pub regroup : (a b c d e f : List Item) → ((((a ++ b) ++ c) ++ d) ++ e) ++ f ≡ a ++ (b ++ (c ++ (d ++ (e ++ f))))
regroup a b c d e f = simp append_assoc
