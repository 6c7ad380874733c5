-- The state of an image, part by part, as the code reads it; and the number of a load, by the tests that the code makes.
use mathlib.Core.Bool.{Bool, true, false, cond, ◌&&◌, and-false}
use mathlib.Core.Path.{◌≡◌, refl, sym, ap, ◌∙◌}
use mathlib.Core.List.{List, ◌++◌, append_assoc}
use Prim.Native.Nat.{ℕ, ◌+◌, ◌^◌, ◌<◌, ◌≤◌}
use native.Mathlib.Omega.{arith}
use lib.Dec.{eqb, leb}
use lib.ListN.{length, take, drop, length-append, length-drop, take-append-drop}
use lib.Seq.{take_at, drop_at, take-take, drop-drop, length-take-le, take-add, take_all}
use borrow.Author.Tests.{eq-eqb, le-leb}
use Rattle.numbers.specs.Numbers.{done, out_of_range}
use Rattle.packing.specs.Packing.{Fit, Below, unpacked, repacked, eights, fives}
use Rattle.packing.proofs.Laws.{below_fit, below_take, below_drop, fit_below, fit_at, unpack_fit}
use Rattle.places.specs.Places.{number}
use Rattle.mbc.specs.Mbc as mbc
use Rattle.palette.specs.declared.Color.{Color}
use Rattle.memory.specs.declared.Core.{Core}
use Rattle.memory.specs.declared.Memory.{Memory}
use Rattle.memory.specs.Ranges.{banks_in_range, hdma_in_range, groups_in_range, core_in_range}
use Rattle.memory.specs.Start.{zeroed}
use Rattle.memory.proofs.Laws.{core_range}
use Rattle.palette.specs.Palette.{colors_in_range}
use Rattle.savelog.specs.Log.{log_limit, use_in_range}
use Rattle.image.specs.Layout.{image_len, field_widths, used_field, zeros_field, widths}
use Rattle.image.specs.Load.{bytes_in, colors_in, values_of, state_of, colors_of, at, is_on, banks_of, hdma_of, cartridge_of, registers_in, core_from, sound, storable, loaded, load_call}
use Rattle.image.specs.Patches.{fields, head_fits, tail_fits, MapperFits, RestFits}
use Rattle.image.proofs.ColorLaws.{below_colors}
use Rattle.image.proofs.FieldLaws.{fields_number, fields_in}
use Rattle.image.proofs.Parts.{field_len, values_parts, repacked_length, repacked_fit}

module _ (l : List ℕ) (size : length l ≡ image_len) (below : Below 256 l) where
  part_fit : (n k : ℕ) → n + k ≤ image_len → Fit (eights k) (take k (drop n l))
  part_fit n k h =
      below_fit k 8 (take k (drop n l)) (length-take-le k (drop n l) (rw length-drop (omega arith)))
      (below_take k 256 (drop n l) (omega arith) (below_drop n 256 l below))

  pub split_image : l ≡ take 512 l ++ ((take 60 (drop 512 l) ++ take 60 (drop 572 l)) ++ take field_len (drop 632 l))
  split_image =
      let a : drop 512 l ≡ take 60 (drop 512 l) ++ drop 60 (drop 512 l) = sym (take-append-drop 60 (drop 512 l)) in
      let b : drop 572 l ≡ take 60 (drop 572 l) ++ drop 60 (drop 572 l) = sym (take-append-drop 60 (drop 572 l)) in
      let c : take field_len (drop 632 l) ≡ drop 632 l = take_all field_len (drop 632 l) (rw length-drop (omega arith)) in
      sym (take-append-drop 512 l)
      ∙ ap (λ (x : List ℕ). take 512 l ++ x)
      (a ∙ ap (λ (x : List ℕ). take 60 (drop 512 l) ++ x)
      (drop-drop 60 512 l ∙ b ∙ ap (λ (x : List ℕ). take 60 (drop 572 l) ++ x) (drop-drop 60 572 l ∙ sym c))
      ∙ sym (append_assoc (take 60 (drop 512 l)) (take 60 (drop 572 l)) (take field_len (drop 632 l))))

  pub values_split : values_of l
      ≡ take 512 l
      ++ ((repacked (eights 60) (fives 96) (take 60 (drop 512 l)) ++ repacked (eights 60) (fives 96) (take 60 (drop 572 l)))
      ++ repacked (eights field_len) field_widths (take field_len (drop 632 l)))
  unfolding values_of
  values_split =
      ap (repacked (eights image_len) widths) split_image
      ∙ values_parts (take 512 l) (take 60 (drop 512 l)) (take 60 (drop 572 l)) (take field_len (drop 632 l)) (part_fit 0 512 (omega arith)) (part_fit 512 60 (omega arith)) (part_fit 572 60 (omega arith)) (part_fit 632 field_len (omega arith))

  pub bytes_in_law : bytes_in (values_of l) ≡ take 512 l
  bytes_in_law = rw values_split (take_at (take 512 l) _ 512 (length-take-le 512 l (omega arith)))

  two_colors : List ℕ
  two_colors = repacked (eights 60) (fives 96) (take 60 (drop 512 l)) ++ repacked (eights 60) (fives 96) (take 60 (drop 572 l))

  two_colors_length : length two_colors ≡ 192
  unfolding two_colors
  two_colors_length =
      rw (
        length-append (repacked (eights 60) (fives 96) (take 60 (drop 512 l))) (repacked (eights 60) (fives 96) (take 60 (drop 572 l))),
        repacked_length (eights 60) (fives 96) (take 60 (drop 512 l)),
        repacked_length (eights 60) (fives 96) (take 60 (drop 572 l)),
      )

  rest_in : drop 512 (values_of l) ≡ two_colors ++ repacked (eights field_len) field_widths (take field_len (drop 632 l))
  unfolding two_colors
  rest_in = rw values_split (drop_at (take 512 l) _ 512 (length-take-le 512 l (omega arith)))

  colors_in_law : colors_in (values_of l) ≡ two_colors
  colors_in_law = rw rest_in (take_at two_colors _ 192 two_colors_length)

  first_colors : take 96 two_colors ≡ repacked (eights 60) (fives 96) (take 60 (drop 512 l))
  unfolding two_colors
  first_colors =
      take_at (repacked (eights 60) (fives 96) (take 60 (drop 512 l))) (repacked (eights 60) (fives 96) (take 60 (drop 572 l))) 96
      (repacked_length (eights 60) (fives 96) (take 60 (drop 512 l)))

  second_colors : drop 96 two_colors ≡ repacked (eights 60) (fives 96) (take 60 (drop 572 l))
  unfolding two_colors
  second_colors =
      drop_at (repacked (eights 60) (fives 96) (take 60 (drop 512 l))) (repacked (eights 60) (fives 96) (take 60 (drop 572 l))) 96
      (repacked_length (eights 60) (fives 96) (take 60 (drop 512 l)))

ten_bits : (n : ℕ) → n < 2 ^ 10 → leb n 1023 ≡ true
ten_bits n h = le-leb n 1023 (omega (arith, h))

number_of : (b : Bool) (m : Memory) → (cond b (loaded done m) (loaded out_of_range zeroed)).number ≡ cond b done out_of_range
number_of true m = refl
number_of false m = refl

-- the tests of a load in the code's order; one of them always holds
regrouped : (b h t s r z u : Bool) → t ≡ true → ((s && z) && ((b && (h && (t && r))) && u)) ≡ ((b && h) && ((s && r) && (z && u)))
regrouped false h t s r z u e = and-false (s && z)
regrouped true false t s r z u e = and-false (s && z)
regrouped true true t false r z u e = refl
regrouped true true t true r false u e = sym (and-false r)
regrouped true true t true r true u e = rw e

-- a state of its parts
abbrev pub made : List ℕ → List ℕ → List Color → List Color → List ℕ → Memory
made o p b s fs =
    record {
      oam = o;
      page = p;
      background = b;
      sprites = s;
      core = core_from fs;
    }

pub made_same : {o o' p p' b b' s s' f f' : List ℕ} → o ≡ o' → p ≡ p' → b ≡ b' → s ≡ s' → f ≡ f'
    → made o p (colors_of b) (colors_of s) f ≡ made o' p' (colors_of b') (colors_of s') f'
made_same e₁ e₂ e₃ e₄ e₅ = rw (e₁, e₂, e₃, e₄, e₅)

pub all_same : {o o' p p' : List ℕ} {b b' s s' : List Color} {c c' : Core} → o ≡ o' → p ≡ p' → b ≡ b' → s ≡ s' → c ≡ c'
    → ◌≡◌ {A = Memory} (record { oam = o; page = p; background = b; sprites = s; core = c })
    (record { oam = o'; page = p'; background = b'; sprites = s'; core = c' })
all_same e₁ e₂ e₃ e₄ e₅ = rw (e₁, e₂, e₃, e₄, e₅)

module _ (l : List ℕ) (size : length l ≡ image_len) (below : Below 256 l) where
  pub state_read : state_of l
      ≡ made (take 256 (drop 0 l)) (take 256 (drop 256 l)) (colors_of (repacked (eights 60) (fives 96) (take 60 (drop 512 l))))
      (colors_of (repacked (eights 60) (fives 96) (take 60 (drop 572 l)))) (fields l)
  unfolding state_of
  state_read =
      let vs = values_of l in
      let o : take 256 (bytes_in vs) ≡ take 256 (drop 0 l) = ap (take 256) (bytes_in_law l size below) ∙ take-take 256 512 l (omega arith) in
      let p : drop 256 (bytes_in vs) ≡ take 256 (drop 256 l) =
      ap (drop 256) (bytes_in_law l size below ∙ take-add 256 256 l) ∙ drop_at (take 256 l) (take 256 (drop 256 l)) 256 (length-take-le 256 l (omega arith)) in
      let b : take 96 (colors_in vs) ≡ repacked (eights 60) (fives 96) (take 60 (drop 512 l)) = ap (take 96) (colors_in_law l size below) ∙ first_colors l size below in
      let s : drop 96 (colors_in vs) ≡ repacked (eights 60) (fives 96) (take 60 (drop 572 l)) = ap (drop 96) (colors_in_law l size below) ∙ second_colors l size below in
      made_same o p b s (fields_in l size)

  pub state_core : (state_of l).core ≡ core_from (fields l)
  state_core = ap (λ (m : Memory). m.core) state_read

  -- no colour of an image is out of range
  five_bits : (bytes : List ℕ) → colors_in_range (colors_of (repacked (eights 60) (fives 96) bytes)) ≡ true
  five_bits bytes =
      below_colors (repacked (eights 60) (fives 96) bytes)
      (fit_below 96 5 (repacked (eights 60) (fives 96) bytes) (omega arith) (repacked_fit (eights 60) (fives 96) bytes))

  pub core_storable : storable (state_of l) ≡ core_in_range (core_from (fields l)) log_limit
  unfolding storable
  core_storable =
      core_range (state_of l) log_limit (ap (λ (m : Memory). colors_in_range m.background) state_read ∙ five_bits (take 60 (drop 512 l)))
      (ap (λ (m : Memory). colors_in_range m.sprites) state_read ∙ five_bits (take 60 (drop 572 l)))
      ∙ ap (λ (c : Core). core_in_range c log_limit) state_core

  remainder_fits : leb (at (fields l) 13) 1023 ≡ true
  remainder_fits =
      ap (λ (fs : List ℕ). leb (at fs 13) 1023) (fields_number l size)
      ∙ ten_bits (at (unpacked field_widths (number l)) 13)
      (fit_at field_widths (unpacked field_widths (number l)) 13 (unpack_fit field_widths (number l)))

  -- the number of a load, by the tests that the code makes
  pub load_fits : (load_call l).number ≡ cond (head_fits (fields l) && tail_fits (fields l)) done out_of_range
  unfolding load_call sound core_in_range groups_in_range
  load_fits =
      let fs = fields l in
      rw (eq-eqb (length l) image_len size, fields_in l size, core_storable)
      (number_of (sound fs && core_in_range (core_from fs) log_limit) (state_of l)
      ∙ ap (λ (b : Bool). cond b done out_of_range)
      (regrouped (banks_in_range (banks_of fs)) (hdma_in_range (hdma_of fs) (is_on fs 0)) (leb (at fs 13) 1023) (mbc.sound (registers_in fs))
      (mbc.in_range (cartridge_of fs) (mbc.mapper_of (registers_in fs))) (eqb (at fs zeros_field) 0) (use_in_range (at fs used_field) log_limit) remainder_fits))

-- and the tests that are enough
pub surely_loads : (l : List ℕ) → Below 256 l → {a b c d : ℕ} → MapperFits l a b → RestFits l c d → (load_call l).number ≡ done
surely_loads l below p q =
    rw (load_fits l p.size below, q.machine.banks, q.machine.hdma, p.mapper, q.zeros, q.used)
