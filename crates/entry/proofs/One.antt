-- Each part of a result is read off the outcome.
use mathlib.Core.List.{List}
use mathlib.Core.Path.{◌≡◌, ap, sym, ◌∙◌}
use Prim.Native.Nat.{ℕ}
use lib.IntN.{ℤ}
use Rattle.image.specs.Load.{Stored, stored}
use Rattle.numbers.specs.One.{OnlyOne}
use Rattle.savelog.specs.Convert.{Conversion, converted}
use Rattle.savelog.specs.Log.{Outcome, outcome}
use Rattle.entry.specs.Entries.{Held, kept}
use Rattle.entry.specs.Entry.{Changed, changed, Given, given, Left, left, Fresh, fresh, Mapped, mapped}
use Rattle.entry.specs.Host.{Shown, shown}
use Rattle.entry.specs.One.{OneBoth, OneBegun, OneShown, OneEntry}

-- two values that are both the same part of o
part : {A B : Type 0} (f : A → B) {p q o : A} → p ≡ o → q ≡ o → f p ≡ f q
part f e g = ap f (e ∙ sym g)

one_held : (o : Left) → OneBoth (λ (m : ℕ) (v : ℕ) (h : Held). left m v h.image h.vram h.wram h.save h.log ≡ o)
one_held o m n v w a b e g = (part (λ (r : Left). r.number) e g, part (λ (r : Left). r.value) e g, part (λ (r : Left). kept r) e g)

one_changed : (o : Changed) → OnlyOne (λ (m : ℕ) (a : List ℕ). changed m a ≡ o)
one_changed o m n a b e g = (part (λ (r : Changed). r.number) e g, part (λ (r : Changed). r.image) e g)

one_given : (o : Given) → OnlyOne (λ (m : ℕ) (v : ℕ). given m v ≡ o)
one_given o m n v w e g = (part (λ (r : Given). r.number) e g, part (λ (r : Given). r.value) e g)

one_fresh : (o : Fresh) → OneBegun (λ (m : ℕ) (i : List ℕ) (v : List ℕ) (w : List ℕ). fresh m i v w ≡ o)
one_fresh o m n i v w i' v' w' e g = (
  part (λ (r : Fresh). r.number) e g,
  part (λ (r : Fresh). r.image) e g,
  part (λ (r : Fresh). r.vram) e g,
  part (λ (r : Fresh). r.wram) e g,
)

one_mapped : (o : Mapped) → OneBoth (λ (m : ℕ) (v : ℕ) (a : List ℕ). mapped m v a ≡ o)
one_mapped o m n v w a b e g = (
  part (λ (r : Mapped). r.number) e g,
  part (λ (r : Mapped). r.value) e g,
  part (λ (r : Mapped). r.image) e g,
)

one_shown : (o : Shown)
    → OneShown (λ (n : ℕ) (d : ℕ) (l : ℕ) (s : ℕ) (m : ℕ) (y : ℤ) (c : ℤ) (a : ℤ) (w : ℤ). shown n d l s m y c a w ≡ o)
one_shown o n d l s m n' d' l' s' m' y c a w y' c' a' w' e g = (
  part (λ (r : Shown). r.number) e g,
  part (λ (r : Shown). r.disabled) e g,
  part (λ (r : Shown). r.line) e g,
  part (λ (r : Shown). r.signal) e g,
  part (λ (r : Shown). r.mode) e g,
  part (λ (r : Shown). r.delay) e g,
  part (λ (r : Shown). r.counter) e g,
  part (λ (r : Shown). r.aux) e g,
  part (λ (r : Shown). r.window) e g,
)

one_stored : (o : Stored) → OnlyOne (λ (m : ℕ) (a : List ℕ). stored m a ≡ o)
one_stored o m n a b e g = (part (λ (r : Stored). r.number) e g, part (λ (r : Stored). r.bytes) e g)

one_recovered : (o : Outcome) → OnlyOne (λ (m : ℕ) (a : List ℕ). outcome m a ≡ o)
one_recovered o m n a b e g = (part (λ (r : Outcome). r.number) e g, part (λ (r : Outcome). r.save) e g)

one_converted : (o : Conversion) → OneBoth (λ (m : ℕ) (v : ℕ) (a : List ℕ). converted m v a ≡ o)
one_converted o m n v w a b e g = (
  part (λ (r : Conversion). r.number) e g,
  part (λ (r : Conversion). r.len) e g,
  part (λ (r : Conversion). r.target) e g,
)

pub one_entry : OneEntry
one_entry =
    record {
      enters = λ x h c. one_held _;
      changes = λ i c. one_changed _;
      asks = λ i c. one_given _;
      reads = λ x i v w s c. one_given _;
      reads_vram = λ i v index bank. one_given _;
      begins = λ i l. one_fresh _;
      mapper_reads = λ i rom save index. one_given _;
      mapper_writes = λ i index byte. one_mapped _;
      fills_colors = λ i out. one_stored _;
      fills_oam = λ i out. one_stored _;
      fills_block = λ x i v w s out index. one_stored _;
      shows = λ i. one_shown _;
      sets = λ i n. one_changed _;
      gives_use = λ i. one_given _;
      sets_use = λ i used. one_changed _;
      gives_cycles = λ i. one_given _;
      recovers = λ save log. one_recovered _;
      converts = λ from to source target. one_converted _;
      version = λ m n e g. e ∙ sym g;
    }
