-- The three parts of a packet's line, put one after another.
use Rattle.std.proofs.Common.{◌≡◌, ℕ, List, [], ◌∷◌, ◌++◌, length, Option, sym, subst}
use Rattle.frame_capture.specs.declared.delivered.Delivered.{Delivered}
use Rattle.script_run.specs.Output.{AppendsFront}
use Rattle.capture_list.specs.Listing.{hex_or_dash, frame_line, line_head}
use Rattle.script_run.specs.Puts.{Puts}
use Rattle.script_run.proofs.Putting.{Puts-more, Front-before, Front-behind}
use Rattle.capture_list.proofs.Telling.{line_is}

module _ (d : Delivered) (head : List ℕ) (is : head ≡ line_head d.tick (length d.frame)) where
  abbrev behind : List ℕ
  behind = hex_or_dash d.frame ++ 10 ∷ []

  whole : frame_line d ≡ head ++ behind
  whole = subst (λ t. frame_line d ≡ t ++ (hex_or_dash d.frame ++ 10 ∷ [])) (sym is) (line_is d)

  all : (P : List ℕ → Type 0) → P (head ++ behind) → P (frame_line d)
  all P p = subst P (sym whole) p

  pub line_put : (a b c e : Option (List ℕ)) (h i j k : List ℕ) → Puts a b h i head → Puts b c i j (hex_or_dash d.frame) → Puts c e j k (10 ∷ []) → Puts a e h k (frame_line d)
  line_put a b c e h i j k p q r = all (Puts a e h k) (Puts-more a b e h i k head behind p (Puts-more b c e i j k (hex_or_dash d.frame) (10 ∷ []) q r))

  pub front_head : (a b : Option (List ℕ)) (h : List ℕ) → AppendsFront a b (h ++ head) → AppendsFront a b (h ++ frame_line d)
  front_head a b h f = all (λ t. AppendsFront a b (h ++ t)) (Front-before a b h head behind f)

  pub front_frame : (a b c : Option (List ℕ)) (h i : List ℕ) → Puts a b h i head → AppendsFront b c (i ++ hex_or_dash d.frame) → AppendsFront a c (h ++ frame_line d)
  front_frame a b c h i p f = all (λ t. AppendsFront a c (h ++ t)) (Front-behind a b c h i head behind p (Front-before b c i (hex_or_dash d.frame) (10 ∷ []) f))

  pub front_end : (a b c e : Option (List ℕ)) (h i j : List ℕ) → Puts a b h i head → Puts b c i j (hex_or_dash d.frame) → AppendsFront c e (j ++ 10 ∷ []) → AppendsFront a e (h ++ frame_line d)
  front_end a b c e h i j p q f = all (λ t. AppendsFront a e (h ++ t)) (Front-behind a b e h i head behind p (Front-behind b c e i j (hex_or_dash d.frame) (10 ∷ []) q f))
