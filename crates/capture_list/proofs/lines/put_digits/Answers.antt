use Rattle.std.proofs.Common.{◌≡◌, List, ℕ, [], ◌∷◌, ◌++◌, length, take, drop, sym, ap, ◌∙◌, subst, take-append-drop, arith}
use Rattle.std.proofs.lemmas.Bool.Decides.{nat_tests}
use Rattle.std.proofs.lemmas.List.{take_rest}
use Rattle.std.proofs.lemmas.Result.{err_from_is_err_and}
use Rattle.hex.specs.Hex.{encode_lower}
use Rattle.script_run.proofs.Putting.{Putting, Putting-nil, Putting-more, Putting-all, Putting-front, Putting-stopped}
use Rattle.capture_list.proofs.Telling.{digits_split, digits_none}
use Rattle.capture_list.proofs.lines.put_digits.Goals as goal

-- the digits of what is left begin with those of the next piece
next_digits : (n : ℕ) (rest piece : List ℕ) → piece ≡ encode_lower (take n rest) → encode_lower rest ≡ piece ++ encode_lower (drop n rest)
next_digits n rest piece is = digits_split n rest (take-append-drop n rest) ∙ ap (λ t. t ++ encode_lower (drop n rest)) (sym is)

-- no byte has no digit
nothing_left : (rest : List ℕ) → length rest ≡ 0 → encode_lower rest ≡ []
nothing_left [] none = digits_none
nothing_left (x ∷ xs) none = absurd cc

pub loop-rest-init : goal.loop-rest-init
loop-rest-init g c = Putting-nil g.K.Sink.holds g.K.Sink.faults g.K.Sink.is_reliable c.args.sink.now c.args.held.now.items (encode_lower c.args.bytes.now)

pub returns-in_err-digits-clause-front : goal.returns-in_err-digits-clause-front
returns-in_err-digits-clause-front g c =
    let p = err_from_is_err_and c.from_residual.result c.from_residual.ensures.1 in
    rw p.1 (Putting-stopped g.K.Sink.holds g.K.Sink.faults g.K.Sink.is_reliable c.args.sink.now c.loop-rest.sink c.args.held.now.items c.loop-rest.held.items
    (encode_lower c.args.bytes.now) (encode_lower c.loop-rest.rest.now) c.loop-rest.invariant)

pub returns-in_err-put-clause-front : goal.returns-in_err-put-clause-front
returns-in_err-put-clause-front g c =
    let p = err_from_is_err_and c.from_residual-in_err-put.result c.from_residual-in_err-put.ensures.1 in
    let rest = c.loop-rest.rest.now in
    let count = c.min-count.result in
    let piece = c.as_bytes.result.now in
    let more = next_digits count rest piece (c.as_bytes.ensures.value ∙ c.in_ok-digits.ensures) in
    rw p.1 (Putting-front g.K.Sink.holds g.K.Sink.faults g.K.Sink.is_reliable c.args.sink.now c.loop-rest.sink c.put.new.sink c.args.held.now.items c.loop-rest.held.items
    (encode_lower c.args.bytes.now) piece (encode_lower (drop count rest))
    (subst (Putting g.K.Sink.holds g.K.Sink.faults g.K.Sink.is_reliable c.args.sink.now c.loop-rest.sink c.args.held.now.items c.loop-rest.held.items (encode_lower c.args.bytes.now)) more c.loop-rest.invariant)
    c.in_err-put.ensures.front)

pub loop-rest-preserved : goal.loop-rest-preserved
loop-rest-preserved g c =
    let rest = c.loop-rest.rest.now in
    let count = c.min-count.result in
    let piece = c.as_bytes.result.now in
    let more = next_digits count rest piece (c.as_bytes.ensures.value ∙ c.in_ok-digits.ensures) in
    simp take_rest (Putting-more g.K.Sink.holds g.K.Sink.faults g.K.Sink.is_reliable c.args.sink.now c.loop-rest.sink c.put.new.sink c.args.held.now.items c.loop-rest.held.items c.put.new.held.items
    (encode_lower c.args.bytes.now) piece (encode_lower (drop count rest))
    (subst (Putting g.K.Sink.holds g.K.Sink.faults g.K.Sink.is_reliable c.args.sink.now c.loop-rest.sink c.args.held.now.items c.loop-rest.held.items (encode_lower c.args.bytes.now)) more c.loop-rest.invariant)
    c.in_ok-put.ensures.all c.in_ok-put.ensures.count (λ h. (c.in_ok-put.ensures.reliable h).1))

pub returns-clause-all : goal.returns-clause-all
returns-clause-all g c =
    let none : length c.loop-rest.rest.now ≡ 0 = grind (arith, nat_tests, c.loop-rest-test.false, c.is_empty.ensures) in
    Putting-all g.K.Sink.holds g.K.Sink.faults g.K.Sink.is_reliable c.args.sink.now c.loop-rest.sink c.args.held.now.items c.loop-rest.held.items
    (encode_lower c.args.bytes.now) (encode_lower c.loop-rest.rest.now) c.loop-rest.invariant (nothing_left c.loop-rest.rest.now none)
