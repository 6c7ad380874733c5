-- What the fresh entry leaves: a state of the code's types.
use mathlib.Core.Bool.{Bool, true, false, ◌&&◌}
use mathlib.Core.List.{List, [], ◌∷◌}
use mathlib.Core.Path.{◌≡◌, refl, sym}
use Prim.Native.Nat.{ℕ, zero, suc}
use native.Mathlib.Omega.{arith}
use lib.Dec.{eqb, ltb, lit<}
use lib.ListN.{length, get_or, replicate, length-replicate}
use lib.IntN.{pos}
use mir.Syntax.{w32}
use mir.Val.{SFits}
use borrow.Author.Tests.{ltb-true, eq-eqb, eqb-true, eqb-false}
use Rattle.bus.specs.Fresh.{Begun}
use Rattle.dispatch.proofs.Starts.{by_begun}
use Rattle.dispatch.specs.Lent.{Lent, start, begin}
use Rattle.entry.specs.Entry.{Fresh, fresh, fresh_entry}
use Rattle.hdma.proofs.Laws.{start_range}
use Rattle.hdma.specs.Hdma.{InRange}
use Rattle.image.specs.Layout.{image_len, image_of}
use Rattle.in_place.proofs.Fine.{Page, Fine}
use Rattle.mbc.specs.declared.cartridge.Cartridge.{Cartridge}
use Rattle.mbc.specs.declared.mbc.Mapper.{Mapper}
use Rattle.memory.specs.Start.{monochrome_page, colour_page, start_page, start_hdma, started}
use Rattle.numbers.specs.Numbers.{done}
use Rattle.packing.specs.Packing.{Below}
use Rattle.palette.specs.Palette as palette
use Rattle.rules.proofs.Tests.{both_true, by_cond, cond_both}

zeros_below : (n : ℕ) → Below 256 (replicate n 0)
zeros_below zero i = lit< tt
zeros_below (suc n) zero = lit< tt
zeros_below (suc n) (suc i) = zeros_below n i

unfoldable all_bytes : List ℕ → Bool
all_bytes [] = true
all_bytes (v ∷ l) = ltb v 256 && all_bytes l

all_below : (l : List ℕ) → all_bytes l ≡ true → Below 256 l
unfolding all_bytes
all_below [] h i = lit< tt
all_below (v ∷ l) h zero = ltb-true v 256 (both_true (ltb v 256) (all_bytes l) h).0
all_below (v ∷ l) h (suc i) = all_below l (both_true (ltb v 256) (all_bytes l) h).1 i

page_bytes : (colour : Bool) → Page (start_page colour)
unfolding start_page colour_page monochrome_page all_bytes
page_bytes true = record { size = refl; bytes = all_below colour_page refl }
page_bytes false = record { size = refl; bytes = all_below monochrome_page refl }

start_hdma_law : (colour : Bool) (p : List ℕ) → Page p → InRange (start_hdma colour p)
unfolding start_hdma
start_hdma_law colour p h =
    cond_both InRange colour (start_range _ (get_or p 0x52 0) (get_or p 0x53 0) (get_or p 0x54 0) (h.bytes 0x51))
    ((refl, lit< tt), (refl, lit< tt))

none : SFits w32 (pos 0)
none = record { sfits = lit< tt }

started_fine : (c : Cartridge) (m : Mapper) (colour : Bool) → Fine (started c m colour)
unfolding started palette.colors_in_range palette.in_range
started_fine c m colour =
    record {
      oam = record { size = length-replicate {A = ℕ} 256 0; bytes = zeros_below 256 };
      page = page_bytes colour;
      background = (refl, refl);
      sprites = (refl, refl);
      joypad = (lit< tt, lit< tt);
      lcd = record { line = lit< tt; signal = lit< tt; mode = lit< tt; delay = none; counter = none; aux = none; window = none };
      hdma = start_hdma_law colour (start_page colour) (page_bytes colour);
      clock = (lit< tt, lit< tt);
      numbers = omega (arith, start_hdma_law colour (start_page colour) (page_bytes colour));
    }

pub begun_fine : (l : Lent) → (start l).number ≡ done → Fine (begin l).state
begun_fine l z = by_begun (λ (f : Begun). Fine f.state) _ _ _ _ z (λ e. started_fine _ _ l.colour)

-- the fresh entry's number, with a buffer of an image's length, is the call's
pub fresh_number : (image v w : List ℕ) (b : Begun) → length image ≡ image_len → (fresh_entry image v w b).number ≡ b.number
unfolding fresh_entry
fresh_number image v w b e =
    rw (eq-eqb (length image) image_len e)
    (by_cond (λ (f : Fresh). f.number ≡ b.number) (eqb b.number 0) _ _ (λ s. sym (eqb-true b.number 0 s)) (λ s. refl))

-- the fresh entry, done
pub fresh_done : (image v w : List ℕ) (b : Begun) → (fresh_entry image v w b).number ≡ done
    → (b.number ≡ done) × (fresh_entry image v w b ≡ fresh done (image_of b.state) b.vram b.wram)
unfolding fresh_entry
fresh_done image v w b =
    let Done : Fresh → Type 0 = λ f. f.number ≡ done → (b.number ≡ done) × (f ≡ fresh done (image_of b.state) b.vram b.wram) in
    by_cond Done (eqb (length image) image_len) _ _
    (λ t.
    by_cond Done (eqb b.number 0) _ _ (λ s z. (eqb-true b.number 0 s, refl)) (λ s z. absurd (eqb-false b.number 0 s z)))
    (λ t z. let y : ◌≡◌ {A = ℕ} 4 0 = z in absurd (omega arith))
