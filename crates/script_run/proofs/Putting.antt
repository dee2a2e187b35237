-- Bytes that are put behind those that are held.
use Rattle.std.proofs.Common.{◌≡◌, ℕ, ◌≤◌, Bool, List, [], ◌++◌, Option, IsTrue, refl, sym, ap, ◌∙◌, subst, append_assoc, append-nil, arith}
use Rattle.std.specs.Io.KnownBytes.{Appends}
use Rattle.std.proofs.KnownBytes.{Appends-nil, Appends-trans}
use Rattle.script_run.specs.Output.{AppendsFront}
use Rattle.script_run.specs.Puts.{Puts}

pub Puts-nil : (a : Option (List ℕ)) (held : List ℕ) → Puts a a held held []
Puts-nil a held = record { written = []; whole = append-nil held; grown = Appends-nil a }

-- all that was held was written
pub Puts-written : (a b : Option (List ℕ)) (held held' : List ℕ) → Appends a b held → held' ≡ [] → Puts a b held held' []
Puts-written a b held held' grown none = record { written = held; whole = ap (λ h. held ++ h) (sym none); grown = grown }

-- more bytes are held
pub Puts-held : (a b : Option (List ℕ)) (held held' held'' bytes : List ℕ) → Puts a b held held' [] → held'' ≡ held' ++ bytes → Puts a b held held'' bytes
Puts-held a b held held' held'' bytes p more = record {
  written = p.written;
  whole = ap (λ h. h ++ bytes) (sym (append-nil held) ∙ p.whole) ∙ append_assoc p.written held' bytes ∙ ap (λ h. p.written ++ h) (sym more);
  grown = p.grown;
}

pub Puts-more : (a b c : Option (List ℕ)) (h i j xs ys : List ℕ) → Puts a b h i xs → Puts b c i j ys → Puts a c h j (xs ++ ys)
Puts-more a b c h i j xs ys p q = record {
  written = p.written ++ q.written;
  whole =
      sym (append_assoc h xs ys) ∙ ap (λ t. t ++ ys) p.whole ∙ append_assoc p.written i ys ∙ ap (λ t. p.written ++ t) q.whole
      ∙ sym (append_assoc p.written q.written j);
  grown = Appends-trans a b c p.written q.written p.grown q.grown;
}

-- all that was put is written with what is held
pub Puts-end : (a b c : Option (List ℕ)) (h xs : List ℕ) → Puts a b [] h xs → Appends b c h → Appends a c xs
Puts-end a b c h xs p grown = subst (Appends a c) (sym p.whole) (Appends-trans a b c p.written h p.grown grown)

-- ---- fronts

pub Front-nil : (a : Option (List ℕ)) (bytes : List ℕ) → AppendsFront a a bytes
Front-nil a bytes = record { front = []; rest = bytes; whole = refl; grown = Appends-nil a }

-- some of what was put is written
pub Front-put : (a b : Option (List ℕ)) (h i xs : List ℕ) → Puts a b h i xs → AppendsFront a b (h ++ xs)
Front-put a b h i xs p = record { front = p.written; rest = i; whole = p.whole; grown = p.grown }

-- a front is one of more bytes
pub Front-longer : (a b : Option (List ℕ)) (xs ys : List ℕ) → AppendsFront a b xs → AppendsFront a b (xs ++ ys)
Front-longer a b xs ys f = record {
  front = f.front;
  rest = f.rest ++ ys;
  whole = ap (λ t. t ++ ys) f.whole ∙ append_assoc f.front f.rest ys;
  grown = f.grown;
}

pub Front-before : (a b : Option (List ℕ)) (h xs ys : List ℕ) → AppendsFront a b (h ++ xs) → AppendsFront a b (h ++ (xs ++ ys))
Front-before a b h xs ys f = subst (AppendsFront a b) (append_assoc h xs ys) (Front-longer a b (h ++ xs) ys f)

-- a front of what is put later is one of all
pub Front-behind : (a b c : Option (List ℕ)) (h i xs ys : List ℕ) → Puts a b h i xs → AppendsFront b c (i ++ ys) → AppendsFront a c (h ++ (xs ++ ys))
Front-behind a b c h i xs ys p f = record {
  front = p.written ++ f.front;
  rest = f.rest;
  whole =
      sym (append_assoc h xs ys) ∙ ap (λ t. t ++ ys) p.whole ∙ append_assoc p.written i ys ∙ ap (λ t. p.written ++ t) f.whole
      ∙ sym (append_assoc p.written f.front f.rest);
  grown = Appends-trans a b c p.written f.front p.grown f.grown;
}

-- a front of what is held is one of all that was put
pub Front-end : (a b c : Option (List ℕ)) (h xs : List ℕ) → Puts a b [] h xs → AppendsFront b c h → AppendsFront a c xs
Front-end a b c h xs p f = record {
  front = p.written ++ f.front;
  rest = f.rest;
  whole = p.whole ∙ ap (λ t. p.written ++ t) f.whole ∙ sym (append_assoc p.written f.front f.rest);
  grown = Appends-trans a b c p.written f.front p.grown f.grown;
}

-- ---- piece by piece

-- some of these bytes were put, and `rest` is left of them. The sink may have failed, unless it is reliable
pub record Putting {K : Type 0} (holds : K → Option (List ℕ)) (faults : K → ℕ) (is_reliable : K → Bool)
    (old new : K) (held held' bytes rest : List ℕ) : Type 0 where
  pub done : List ℕ
  pub split : bytes ≡ done ++ rest
  pub puts : Puts (holds old) (holds new) held held' done
  pub count : faults old ≤ faults new
  pub reliable : IsTrue (is_reliable old) → IsTrue (is_reliable new)

module _ {K : Type 0} (holds : K → Option (List ℕ)) (faults : K → ℕ) (is_reliable : K → Bool) where
  pub Putting-nil : (a : K) (h bytes : List ℕ) → Putting holds faults is_reliable a a h h bytes bytes
  Putting-nil a h bytes = record { done = []; split = refl; puts = Puts-nil (holds a) h; count = omega arith; reliable = λ r. r }

  pub Putting-more : (a b c : K) (h i j bytes piece rest : List ℕ) → Putting holds faults is_reliable a b h i bytes (piece ++ rest)
      → Puts (holds b) (holds c) i j piece → faults b ≤ faults c → (IsTrue (is_reliable b) → IsTrue (is_reliable c))
      → Putting holds faults is_reliable a c h j bytes rest
  Putting-more a b c h i j bytes piece rest p puts count reliable = record {
    done = p.done ++ piece;
    split = p.split ∙ sym (append_assoc p.done piece rest);
    puts = Puts-more (holds a) (holds b) (holds c) h i j p.done piece p.puts puts;
    count = omega (arith, p.count, count);
    reliable = λ r. reliable (p.reliable r);
  }

  pub Putting-last : (a b c : K) (h i j bytes rest : List ℕ) → Putting holds faults is_reliable a b h i bytes rest
      → Puts (holds b) (holds c) i j rest → Puts (holds a) (holds c) h j bytes
  Putting-last a b c h i j bytes rest p puts =
      subst (Puts (holds a) (holds c) h j) (sym p.split) (Puts-more (holds a) (holds b) (holds c) h i j p.done rest p.puts puts)

  pub Putting-all : (a b : K) (h i bytes rest : List ℕ) → Putting holds faults is_reliable a b h i bytes rest → rest ≡ []
      → Puts (holds a) (holds b) h i bytes
  Putting-all a b h i bytes rest p none =
      subst (Puts (holds a) (holds b) h i) (sym (p.split ∙ ap (λ r. p.done ++ r) none ∙ append-nil p.done)) p.puts

  pub Putting-front : (a b c : K) (h i bytes piece rest : List ℕ) → Putting holds faults is_reliable a b h i bytes (piece ++ rest)
      → AppendsFront (holds b) (holds c) (i ++ piece) → AppendsFront (holds a) (holds c) (h ++ bytes)
  Putting-front a b c h i bytes piece rest p f =
      subst (λ t. AppendsFront (holds a) (holds c) (h ++ t)) (sym p.split)
      (Front-behind (holds a) (holds b) (holds c) h i p.done (piece ++ rest) p.puts (Front-before (holds b) (holds c) i piece rest f))

  -- nothing more was put
  pub Putting-stopped : (a b : K) (h i bytes rest : List ℕ) → Putting holds faults is_reliable a b h i bytes rest
      → AppendsFront (holds a) (holds b) (h ++ bytes)
  Putting-stopped a b h i bytes rest p =
      subst (λ t. AppendsFront (holds a) (holds b) (h ++ t)) (sym p.split)
      (Front-behind (holds a) (holds b) (holds b) h i p.done rest p.puts (Front-nil (holds b) (i ++ rest)))
