-- From a place of the walk to the next.
use mathlib.Core.Bool.{Bool, true, false, cond}
use mathlib.Core.List.{List, [], ◌∷◌, ◌++◌, append_assoc, append-nil}
use mathlib.Core.Logic.{inl, inr}
use Rattle.std.proofs.Common.{Option, None, Result, Ok, Err, IsErrAnd}
use mathlib.Core.Path.{◌≡◌, refl, sym, ap, ◌∙◌}
use Prim.Native.Nat.{ℕ, ◌<◌}
use native.Mathlib.Omega.{arith}
use borrow.Author.Tests.{le-ltb, lt-ltb, ne_eqb}
use lib.ListN.{length, take, length-append}
use lib.Dec.{eqb}
use lib.Seq.{take_all}
use Rattle.rules.proofs.Tests.{untrue}
use Rattle.commands.specs.Walk.{command_of, read_line, write_line, update_line, strange_text}
use Rattle.commands.specs.declared.command.Command.{Command}
use Rattle.lines.specs.Reader.{lines_of, fed, pending, Step, line_in, FoundAs}
use Rattle.lines.specs.declared.reader.Found.{Found}
use Rattle.lines.specs.declared.reader.Found.TheVariants.{Line, Long, Read, End}
use Rattle.lines.specs.declared.reader.Reader.{Reader}
use Rattle.lines.proofs.Reading.{lines_cut, lines_before, before}
use Rattle.memory.specs.World.{World, Fixed, world}
use Rattle.memory.specs.declared.Memory.{Memory}
use Rattle.walk.specs.Line.{Walked, walked, walked_by, line_walked}
use Rattle.walk.specs.declared.Ending.{Ending}
use Rattle.walk.specs.Walk.{after, walk_lines, one_line, long_first, onward, Place, place, ahead, Goes, Over}
use Rattle.walk.specs.Walk.{place_by, does_go_on, ByReader, Stepped, Shown, Ran, Whole}

-- Texts

pub after_after : (t u : List ℕ) (a : Walked) → after t (after u a) ≡ after (t ++ u) a
after_after t u a = ap (λ (l : List ℕ). walked l a.after) (sym (append_assoc t u a.text))

-- A line of more than twelve characters has no known form

either : (b : Bool) (x : Option Command) → cond b x x ≡ x
either true x = refl
either false x = refl

pub too_long : (s : List ℕ) → 12 < length s → command_of s ≡ None
unfolding command_of read_line write_line update_line
too_long s h =
    rw (
      ne_eqb (length s) 6 (λ (e : length s ≡ 6). omega arith),
      ne_eqb (length s) 9 (λ (e : length s ≡ 9). omega arith),
      le-ltb (length s) 3 (omega arith),
      lt-ltb 12 (length s) h,
      either (eqb _ 84) None,
      either (eqb _ 87) None,
      either (eqb _ 82) None,
      either (eqb _ 32) None,
    )

long_line : (x : Fixed) (w : World) (s : List ℕ) → 12 < length s → line_walked x w s ≡ walked strange_text w
unfolding walked_by
long_line x w s h = rw (too_long s h)

-- What is left to walk

module _ (x : Fixed) (w : World) (line rest : List ℕ) where
  pub onward_line : (long : Bool) → fed line ≡ false
      → onward x w long (line ++ (10 ∷ rest)) ≡ after (one_line x w long line).text (onward x (one_line x w long line).after false rest)
  unfolding walk_lines
  onward_line true c = rw (lines_cut line rest c)
  onward_line false c = rw (lines_cut line rest c)

pub onward_last : (x : Fixed) (w : World) (long : Bool) (p : List ℕ) → fed p ≡ false → 0 < length p
    → onward x w long (p ++ []) ≡ after (one_line x w long p).text (onward x (one_line x w long p).after false [])
unfolding walk_lines lines_of
onward_last x w true p c h = rw (lines_before p [] c h)
onward_last x w false p c h = rw (lines_before p [] c h)

module _ (x : Fixed) (w : World) (d : List ℕ) (h : 12 < length d) where
  first_long : (ls : List (List ℕ)) → walk_lines x w (before d ls) ≡ long_first x w ls
  unfolding walk_lines
  first_long [] = rw (long_line x w d h)
  first_long (line ∷ rest) = rw (long_line x w (d ++ line) (omega (arith, length-append d line)))

  still_long : (ls : List (List ℕ)) → long_first x w (before d ls) ≡ long_first x w ls
  unfolding walk_lines
  still_long [] = refl
  still_long (line ∷ rest) = refl

  pub onward_long : (long : Bool) (s : List ℕ) → fed d ≡ false → onward x w long (d ++ s) ≡ onward x w true s
  onward_long true s c = rw (lines_before d s c (omega arith)) (still_long (lines_of s))
  onward_long false s c = rw (lines_before d s c (omega arith)) (first_long (lines_of s))

-- Places

module _ (x : Fixed) (w : World) (t : List ℕ) (long : Bool) where
  -- nothing is done
  pub goes_nowhere : (rest : List ℕ) (more : Bool) → Goes x [] (place w t long rest more) (place w t long rest more)
  goes_nowhere rest more = record { input = []; closed = λ e. (refl, e); same = λ future come. refl }

  -- what waits is printed, or its first part
  pub goes_printed : (u v rest : List ℕ) (more : Bool) → t ≡ u ++ v → Goes x u (place w t long rest more) (place w v long rest more)
  goes_printed u v rest more e =
      record {
        input = [];
        closed = λ c. (refl, c);
        same = λ future come. rw e (sym (after_after u v (onward x w long (rest ++ future))));
      }

  -- more is read
  pub goes_read : (rest new rest' : List ℕ) (more' : Bool) → rest' ≡ rest ++ new
      → Goes x [] (place w t long rest true) (place w t long rest' more')
  goes_read rest new rest' more' e =
      record {
        input = new;
        closed = λ c. untrue (sym c);
        same = λ future come.
            ap (λ (l : List ℕ). after t (onward x w long l)) (sym (append_assoc rest new future) ∙ ap (λ (l : List ℕ). l ++ future) (sym e));
      }

  -- the buffer is dropped
  pub goes_long : (rest rest' : List ℕ) → 12 < length rest → fed rest ≡ false → rest' ≡ []
      → Goes x [] (place w t long rest true) (place w t true rest' true)
  goes_long rest rest' h c e =
      record {
        input = [];
        closed = λ k. untrue (sym k);
        same = λ future come. rw e (ap (after t) (onward_long x w rest h long future c));
      }

  -- a line that a line feed ends
  pub goes_line : (line rest rest' t' : List ℕ) (w' : World) (more : Bool) → rest ≡ line ++ (10 ∷ rest') → fed line ≡ false
      → walked t' w' ≡ after t (one_line x w long line)
      → Goes x [] (place w t long rest more) (place w' t' false rest' more)
  goes_line line rest rest' t' w' more e c a =
      record {
        input = [];
        closed = λ k. (refl, k);
        same = λ future come.
            ap (λ (l : List ℕ). after t (onward x w long l)) (ap (λ (l : List ℕ). l ++ future) e ∙ append_assoc line (10 ∷ rest') future)
            ∙ (ap (after t) (onward_line x w line (rest' ++ future) long c)
            ∙ (after_after t (one_line x w long line).text (onward x (one_line x w long line).after false (rest' ++ future))
            ∙ ap (λ (b : Walked). after b.text (onward x b.after false (rest' ++ future))) (sym a)));
      }

  -- a line that the input's end ends
  pub goes_last : (rest rest' t' : List ℕ) (w' : World) → fed rest ≡ false → 0 < length rest → rest' ≡ []
      → walked t' w' ≡ after t (one_line x w long rest)
      → Goes x [] (place w t long rest false) (place w' t' false rest' false)
  goes_last rest rest' t' w' c h e a =
      record {
        input = [];
        closed = λ k. (refl, refl);
        same = λ future come.
            rw (come refl, e)
            (ap (after t) (onward_last x w long rest c h)
            ∙ (after_after t (one_line x w long rest).text (onward x (one_line x w long rest).after false [])
            ∙ ap (λ (b : Walked). after b.text (onward x b.after false [])) (sym a)));
      }

-- the input's end, which ends a long line
module _ (x : Fixed) (w : World) (t : List ℕ) where
  ends_by : (long : Bool) → after t (onward x w long []) ≡ after (t ++ cond long strange_text []) (onward x w false [])
  unfolding walk_lines lines_of
  ends_by true = ap (λ (l : List ℕ). walked l w) (sym (append-nil (t ++ strange_text)))
  ends_by false = ap (λ (l : List ℕ). walked (l ++ []) w) (sym (append-nil t))

  pub goes_end : (long : Bool) (rest rest' t' : List ℕ) → rest ≡ [] → rest' ≡ [] → t' ≡ t ++ cond long strange_text []
      → Goes x [] (place w t long rest false) (place w t' false rest' false)
  goes_end long rest rest' t' e f a =
      record {
        input = [];
        closed = λ k. (refl, refl);
        same = λ future come. rw (come refl, e, f, a) (ends_by long);
      }

-- one way after another
pub goes_on : (x : Fixed) (u v : List ℕ) (p q r : Place) → Goes x u p q → Goes x v q r → Goes x (u ++ v) p r
goes_on x u v p q r a b =
    record {
      input = a.input ++ b.input;
      closed = λ k. let f = a.closed k in let g = b.closed f.1 in (rw (f.0, g.0), g.1);
      same = λ future come.
          ap (ahead x p) (append_assoc a.input b.input future)
          ∙ (a.same (b.input ++ future) (λ k. rw (b.closed k).0 (come (b.closed k).1))
          ∙ (ap (after u) (b.same future come) ∙ after_after u v (ahead x r future)));
    }

-- at the input's end, from the beginning
pub walked_whole : (x : Fixed) (w : World) (printed : List ℕ) (q : Place) → Goes x printed (place w [] false [] true) q → Over q
    → Whole x w q.world
unfolding walk_lines lines_of
walked_whole x w printed q g o =
    record {
      input = g.input ++ [];
      text = printed ++ (q.waiting ++ []);
      all = g.same [] (λ k. refl) ∙ rw (o.1.0, o.1.1);
    }

-- A step of the reader

module _ (x : Fixed) (w : World) (t : List ℕ) (long : Bool) (p : List ℕ) (m : Bool) (bytes : List ℕ) (s : Step) where
  -- what it found leads on
  goes_by : (f : Found) → FoundAs f p m bytes s → 12 < length bytes
      → Goes x [] (place w t long p m) (place_by f x (place w t long p m) bytes s)
  goes_by (Line from to) (inl c) h =
      let a = after t (one_line x w long (line_in bytes s)) in
      rw c.stays (goes_line x w t long (line_in bytes s) p (pending bytes s.next) a.text a.after m c.cut c.clear refl)
  goes_by (Line from to) (inr c) h =
      let a = after t (one_line x w long (line_in bytes s)) in
      rw (c.ended, c.stays)
      (goes_last x w t long p (pending bytes s.next) a.text a.after c.clear c.some c.none
      (ap (λ (l : List ℕ). after t (one_line x w long l)) c.all))
  goes_by Long c h =
      rw (c.reads, c.stays) (goes_long x w t long p (pending bytes s.next) (omega (arith, c.full)) c.clear c.none)
  goes_by Read c h = rw c.reads (goes_read x w t long p c.new (pending bytes s.next) s.next.more c.behind)
  goes_by End c h =
      rw (c.ended, c.stays)
      (goes_end x w t long p (pending bytes s.next) (t ++ cond long strange_text []) c.nothing c.none refl)

  -- it ends the walk at the input's end alone
  over_by : (f : Found) → FoundAs f p m bytes s → does_go_on f ≡ false → Over (place_by f x (place w t long p m) bytes s)
  over_by (Line from to) c e = untrue (sym e)
  over_by Long c e = untrue (sym e)
  over_by Read c e = untrue (sym e)
  over_by End c e = (c.stays, (refl, c.none))

-- a step goes from its place to the next, and ends the walk where the input has ended and all of it is answered
by_reader : (x : Fixed) (p : Place) (bytes : List ℕ) (more : Bool) (q : Place) → ByReader x p bytes more q → 12 < length bytes
    → Goes x [] p q × (more ≡ false → Over q)
by_reader x p bytes more q b h =
    let s = b.step in
    rw (b.leads, b.on) (
      goes_by x p.world p.waiting p.long p.rest p.more bytes s s.found b.finds h,
      over_by x p.world p.waiting p.long p.rest p.more bytes s s.found b.finds,
    )

step_goes : (x : Fixed) (lost : Bool) (p : Place) (bytes : List ℕ) (more gone : Bool) (q : Place)
    → Stepped x lost p bytes more gone q → 12 < length bytes → Goes x [] p q
step_goes x true p bytes more gone q s h = rw (s.stops refl).1 (goes_nowhere x p.world p.waiting p.long p.rest p.more)
step_goes x false p bytes more gone q s h = (by_reader x p bytes more q (s.reads refl) h).0

step_ends : (x : Fixed) (lost : Bool) (p : Place) (bytes : List ℕ) (more gone : Bool) (q : Place)
    → Stepped x lost p bytes more gone q → 12 < length bytes → more ≡ false → gone ≡ false → Over q
step_ends x true p bytes more gone q s h e f = untrue (sym f ∙ s.told)
step_ends x false p bytes more gone q s h e f = (by_reader x p bytes more q (s.reads refl) h).1 e

-- A turn of the loop: what waits is printed or not, and a step is made

module _ (x : Fixed) (p : Place) (w : World) (long : Bool) (rest : List ℕ) (m lost : Bool) (bytes : List ℕ) (more gone : Bool) (q : Place) where
  ran_on : (t u v : List ℕ) (a b : Bool) → t ≡ u ++ v → Ran x p a b (place w t long rest m)
      → Stepped x lost (place w v long rest m) bytes more gone q → 12 < length bytes → Ran x p more gone q
  ran_on t u v a b e r s h =
      let g = step_goes x lost (place w v long rest m) bytes more gone q s h in
      let i = goes_on x u [] (place w t long rest m) (place w v long rest m) q (goes_printed x w t long u v rest m e) g in
      record {
        printed = r.printed ++ (u ++ []);
        goes = goes_on x r.printed (u ++ []) p (place w t long rest m) q r.goes i;
        ends = step_ends x lost (place w v long rest m) bytes more gone q s h;
      }

  -- all that waits is printed, or nothing
  pub ran_next : (t v : List ℕ) (a b : Bool) (k : Reader) (size : ℕ) → v ≡ take (length v) t → Shown k (length t) size (length v) lost
      → Ran x p a b (place w t long rest m) → Stepped x lost (place w v long rest m) bytes more gone q
      → 12 < length bytes → Ran x p more gone q
  ran_next t v a b k size i (inl e) r s h =
      ran_on t [] v a b (sym (i ∙ (ap (λ (n : ℕ). take n t) e.all ∙ take_all (length t) t (omega arith)))) r s h
  ran_next t v a b k size i (inr e) r s h =
      ran_on t t v a b (sym (append-nil t) ∙ ap (λ (l : List ℕ). t ++ l) (sym (i ∙ ap (λ (n : ℕ). take n t) e.none))) r s h

pub ran_none : (x : Fixed) (w : World) (t : List ℕ) (long : Bool) (rest : List ℕ) (m : Bool) (more gone : Bool) → more ≡ true
    → Ran x (place w t long rest m) more gone (place w t long rest m)
ran_none x w t long rest m more gone e =
    record { printed = []; goes = goes_nowhere x w t long rest m; ends = λ f. untrue (sym f ∙ e) }

-- From the beginning

pub ran_whole : (x : Fixed) (w : World) (t : List ℕ) (long : Bool) (rest : List ℕ) (m : Bool) (more gone : Bool) (q : Place)
    → t ≡ [] → long ≡ false → rest ≡ [] → m ≡ true → Ran x (place w t long rest m) more gone q → more ≡ false → gone ≡ false → Whole x w q.world
ran_whole x w t long rest m more gone q e f g h r i j =
    walked_whole x w r.printed q (rw (e, f, g, h) at r.goes) (r.ends i j)

pub worlds_same : {m n : Memory} {v v' w w' : List ℕ} (s l : List ℕ) → m ≡ n → v ≡ v' → w ≡ w' → world m v w s l ≡ world n v' w' s l
worlds_same s l e f g = rw (e, f, g)

-- what a walk that goes out by `?` answers
pub ended : {T : Type 0} (r : Result T Ending) (e : Ending) → IsErrAnd r (λ y. y ≡ e) → r ≡ Err e
ended (Ok x) e h = absurd h
ended (Err y) e h = ap Err h
