-- What tells the machine nothing changes neither its gate nor what it lets in, so save and log do not depend on it.
use mathlib.Core.Bool.{Bool, true, false, cond, ◌||◌}
use mathlib.Core.List.{List, [], ◌∷◌, ◌++◌}
use mathlib.Core.Path.{◌≡◌, refl, ap, sym, ◌∙◌}
use Prim.Native.Nat.{ℕ, ◌+◌, ◌*◌}
use native.Mathlib.Omega.{arith}
use lib.ListN.{length}
use Rattle.rules.proofs.Tests.{neither, untrue}
use Rattle.savelog.specs.Log.{width, cleared_use, apply_all}
use Rattle.savelog.specs.declared.Rec.{Rec}
use Rattle.promise.specs.Bus.{Lent}
use Rattle.promise.specs.Calls.{ByteWrite, some}
use Rattle.promise.specs.Admitted.{mappers_after, let_in_all, records_of}
use Rattle.promise.specs.Gate.{Terms, Gate, Asked, passed, lets, gate_after, admitted_by, telling}
use Rattle.promise.specs.Promise.{Same, Independent}
use Rattle.promise.specs.Runs.{Turn, asked_all, terms, opening, admitted}
use Rattle.promise.proofs.Lists.{none_granted}
use Rattle.promise.proofs.Promise.{promise}
use Rattle.promise.proofs.Turns.{terms_same, gate_same}

no_writes : (bs : List ByteWrite) → some bs ≡ false → bs ≡ []
no_writes [] e = refl
no_writes (b ∷ bs) e = untrue (sym e)

module _ (d : Terms) where
  silent_gate : (g : Gate) (q : Asked) → q.writes ≡ [] → q.clears ≡ false → gate_after d g q ≡ g
  unfolding gate_after mappers_after let_in_all
  silent_gate g q e c =
      let p : passed d g q ≡ [] = none_granted _ q.writes e in
      let z : g.used + 0 ≡ g.used = omega arith in
      gate_same (gate_after d g q) g (ap (λ (bs : List ByteWrite). mappers_after d.cartridge g.mapper bs) p)
      (ap (λ (b : Bool). cond b cleared_use (g.used + length (lets d g q) * width)) c
      ∙ ap (λ (bs : List ByteWrite). g.used + length (let_in_all d.cartridge g.mapper bs) * width) p
      ∙ z)

  silent_lets : (g : Gate) (q : Asked) → q.writes ≡ [] → lets d g q ≡ []
  unfolding let_in_all
  silent_lets g q e = ap (λ (bs : List ByteWrite). let_in_all d.cartridge g.mapper bs) (none_granted _ q.writes e)

  tell_one : (g : Gate) (q : Asked) (qs : List Asked) → admitted_by d (gate_after d g q) (telling qs) ≡ admitted_by d (gate_after d g q) qs
      → admitted_by d g (telling qs) ≡ admitted_by d g qs → (b : Bool) → (q.clears || some q.writes) ≡ b
      → admitted_by d g (cond b (q ∷ []) [] ++ telling qs) ≡ admitted_by d g (q ∷ qs)
  unfolding admitted_by
  tell_one g q qs told silent true e = ap (λ (rs : List Rec). lets d g q ++ rs) told
  tell_one g q qs told silent false e =
      let n = neither q.clears (some q.writes) e in
      let s = no_writes q.writes n.1 in
      silent
      ∙ ap (λ (o : Gate). admitted_by d o qs) (sym (silent_gate g q s n.0))
      ∙ ap (λ (rs : List Rec). rs ++ admitted_by d (gate_after d g q) qs) (sym (silent_lets g q s))

  tells : (g : Gate) (qs : List Asked) → admitted_by d g (telling qs) ≡ admitted_by d g qs
  unfolding telling
  tells g [] = refl
  tells g (q ∷ qs) = tell_one g q qs (tells (gate_after d g q) qs) (tells g qs) (q.clears || some q.writes) refl

same_admitted : (l k : Lent) (ts us : List Turn) → Same l k → telling (asked_all (terms l) ts) ≡ telling (asked_all (terms k) us)
    → admitted l ts ≡ admitted k us
same_admitted l k ts us s e =
    let d : terms l ≡ terms k =
    terms_same (terms l) (terms k) (rw (s.banks, s.code)) s.colour (rw (s.banks, s.code, s.kind)) s.log in
    let g : opening l ≡ opening k = gate_same (opening l) (opening k) (rw s.kind) refl in
    sym (tells (terms l) (opening l) (asked_all (terms l) ts))
    ∙ ap (λ (qs : List Asked). admitted_by (terms l) (opening l) qs) e
    ∙ ap (λ (o : Terms). admitted_by o (opening l) (telling (asked_all (terms k) us))) d
    ∙ ap (λ (o : Gate). admitted_by (terms k) o (telling (asked_all (terms k) us))) g
    ∙ tells (terms k) (opening k) (asked_all (terms k) us)

pub independent : Independent
independent l k ts us s y z h j e =
    let a = same_admitted l k ts us s e in
    let t = (promise l ts y h).told in
    let u = (promise k us z j).told in (
      t.save ∙ ap (λ (i : List ℕ). apply_all i (admitted l ts)) s.image ∙ ap (λ (rs : List Rec). apply_all k.image rs) a ∙ sym u.save,
      t.log ∙ ap records_of a ∙ sym u.log,
    )
