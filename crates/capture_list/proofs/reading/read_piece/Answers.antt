use Rattle.std.proofs.Common.{◌≡◌, ◌≤◌, ◌<◌, ℕ, List, ◌++◌, length, take, drop, Option, Result, Ok, Err, IfOk, OnErr, sym, subst, arith, length-take}
use Rattle.std.specs.Io.KnownBytes.{Consumes, IsAtEnd, Keeps, ReadConsumes}
use Rattle.std.proofs.lemmas.List.{take-append-le}
use Rattle.capture_list.proofs.reading.read_piece.Goals as goal

within_room : {E : Type 0} (r : Result ℕ E) (into : List ℕ) (P : ℕ → Type 0) → IfOk r (λ n. n ≤ length into) → ((n : ℕ) → n ≤ length into → P n) → IfOk r P
within_room (Ok n) into P within each = each n within
within_room (Err e) into P within each = tt

given : {E : Type 0} (r : Result ℕ E) (old new : Option (List ℕ)) (into rest : List ℕ) → IfOk r (λ n. n ≤ length into) → ReadConsumes old new r into
    → IfOk r (λ n. Consumes old new (take n (into ++ rest)))
given (Ok n) old new into rest within bytes = subst (Consumes old new) (sym (take-append-le n into rest within)) bytes.0
given (Err e) old new into rest within bytes = tt

same_count : {E : Type 0} (m n : ℕ) → ◌≡◌ {A = Result ℕ E} (Ok m) (Ok n) → m ≡ n
same_count m n e = cc

at_end : {E : Type 0} (r : Result ℕ E) (old new : Option (List ℕ)) (into : List ℕ) → ReadConsumes old new r into → 0 < length into → r ≡ Ok 0 → IsAtEnd new
at_end (Ok n) old new into bytes some e = bytes.1 (same_count n 0 e) some
at_end (Err f) old new into bytes some e = absurd cc

kept : {E : Type 0} (r : Result ℕ E) (old new : Option (List ℕ)) (into : List ℕ) → ReadConsumes old new r into → OnErr r (Keeps old new)
kept (Ok n) old new into bytes = tt
kept (Err e) old new into bytes = bytes

pub returns-clause-short : goal.returns-clause-short
returns-clause-short g c = within_room c.read.result c.read.new.into _ c.read.ensures.within
    (λ n low. omega (arith, low, c.read.auto.into, c.min-room.ensures, length-take c.min-room.result c.args.buffer.now))

pub returns-clause-few : goal.returns-clause-few
returns-clause-few g c = within_room c.read.result c.read.new.into _ c.read.ensures.within
    (λ n low. omega (arith, low, c.requires.going, c.read.auto.into, c.min-room.ensures, length-take c.min-room.result c.args.buffer.now))

pub returns-clause-bytes : goal.returns-clause-bytes
returns-clause-bytes g c =
    given c.read.result (g.S.Source.left c.args.source.now) (g.S.Source.left c.read.new.self) c.read.new.into (drop c.min-room.result c.args.buffer.now)
    c.read.ensures.within c.read.ensures.bytes

pub returns-clause-end : goal.returns-clause-end
returns-clause-end g c e =
    let some : 0 < length c.read.new.into = omega (arith, c.requires.going, c.requires.room, c.read.auto.into, c.min-room.ensures, length-take c.min-room.result c.args.buffer.now) in
    at_end c.read.result (g.S.Source.left c.args.source.now) (g.S.Source.left c.read.new.self) c.read.new.into c.read.ensures.bytes some e

pub returns-clause-kept : goal.returns-clause-kept
returns-clause-kept g c = kept c.read.result (g.S.Source.left c.args.source.now) (g.S.Source.left c.read.new.self) c.read.new.into c.read.ensures.bytes
