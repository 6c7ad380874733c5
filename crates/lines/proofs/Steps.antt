-- A step of the reader: of the places that it goes by, each kind of step is what specs/Reader.antt says.
use Rattle.std.proofs.Common.{◌≡◌, ℕ, suc, ◌+◌, ◌-◌, ◌<◌, ◌≤◌, Bool, true, false, ltb, List, [], ◌∷◌, ◌++◌, length, take, drop, sym, refl, ap, ◌∙◌, arith, length-drop, length-take-le, take-take, drop-drop, take-add, Some, None}
use Rattle.memchr.specs.Find.{is_byte, IsFirstByte}
use Rattle.lines.specs.Reader.{fed, part, standing, step, Ended, Last, Came, Dropped, Over}
use Rattle.lines.specs.declared.reader.Found.TheVariants.{Line, Long, Read, End}
use Rattle.lines.proofs.Reading.{part_drop, length_part, cuts, clear}

pub part_none : (l : List ℕ) (from to : ℕ) → to ≤ from → part from to l ≡ []
part_none l from to h = let e : to - from ≡ 0 = omega arith in ap (λ (n : ℕ). take n (drop from l)) e

module _ (l : List ℕ) (at end : ℕ) (h : at ≤ end) (k : end ≤ length l) where
  pub step_over : at ≡ end → Over (part at end l) false l (step End (standing end end false))
  step_over e =
      record {
        ended = refl;
        nothing = part_none l at end (omega arith);
        none = part_none l end end (omega arith);
        stays = refl;
      }

  pub step_last : (at ≡ end → ⊥) → fed (part at end l) ≡ false → Last (part at end l) false l (step (Line at end) (standing end end false))
  step_last d c =
      record {
        ended = refl;
        clear = c;
        some = omega (arith, length_part l at end h k, d);
        all = refl;
        none = part_none l end end (omega arith);
        stays = refl;
      }

  pub step_dropped : (m : List ℕ) → length m ≡ length l → length l ≤ end - at → fed (part at end l) ≡ false
      → Dropped (part at end l) true m (step Long (standing 0 0 true))
  step_dropped m s f c =
      record {
        reads = refl;
        clear = c;
        full = omega (arith, length_part l at end h k);
        none = part_none m 0 0 (omega arith);
        stays = refl;
      }

  pub step_came : (m : List ℕ) (n : ℕ) → length m ≡ length l → end - at < length l → end - at + n ≤ length m → fed (part at end l) ≡ false
      → take (end - at) m ≡ part at end l
      → Came (part at end l) true m (step Read (standing 0 (end - at + n) (ltb 0 n)))
  step_came m n s r f c e =
      record {
        reads = refl;
        clear = c;
        room = omega (arith, length_part l at end h k);
        new = take n (drop (end - at) m);
        behind = let z : end - at + n - 0 ≡ end - at + n = omega arith in
            ap (λ (j : ℕ). take j m) z ∙ (take-add (end - at) n m ∙ ap (λ (p : List ℕ). p ++ take n (drop (end - at) m)) e);
        stays = ap (ltb 0) (sym (length-take-le n (drop (end - at) m) (omega (arith, length-drop (end - at) m))));
      }

  pub step_clear : IsFirstByte (is_byte 10) (part at end l) None → fed (part at end l) ≡ false
  step_clear f = clear (part at end l) f

  module _ (size : ℕ) (found : IsFirstByte (is_byte 10) (part at end l) (Some size)) where
    pub step_inside : at + size < end
    step_inside = omega (arith, (cuts (part at end l) size found).0, length_part l at end h k)

    line : take size (part at end l) ≡ part at (at + size) l
    line =
        let i = step_inside in
        let e : at + size - at ≡ size = omega arith in
        rw e (take-take size (end - at) (drop at l) (omega arith))

    rest : drop (suc size) (part at end l) ≡ part (at + size + 1) end l
    rest =
        let i = step_inside in
        part_drop (drop at l) (suc size) (end - at) (omega arith)
        ∙ (let e : end - at - suc size ≡ end - (at + size + 1) = omega arith in
        let f : at + suc size ≡ at + size + 1 = omega arith in
        rw e (ap (take (end - (at + size + 1))) (drop-drop (suc size) at l ∙ ap (λ (n : ℕ). drop n l) f)))

    pub step_ended : (more : Bool) → Ended (part at end l) more l (step (Line at (at + size)) (standing (at + size + 1) end more))
    step_ended more =
        let p = (cuts (part at end l) size found).1 in
        record {
          cut = p.0 ∙ (ap (λ (a : List ℕ). a ++ (10 ∷ drop (suc size) (part at end l))) line
              ∙ ap (λ (b : List ℕ). part at (at + size) l ++ (10 ∷ b)) rest);
          clear = ap fed (sym line) ∙ p.1;
          stays = refl;
        }
