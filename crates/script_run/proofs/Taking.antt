-- Bytes that are taken from a script, and the lines that are still to come behind them.
use Rattle.std.proofs.Common.{◌≡◌, ℕ, suc, ◌+◌, ◌≤◌, ◌<◌, Bool, true, false, not, ◌&&◌, ◌||◌, List, [], ◌∷◌, ◌++◌, ◌⊎◌, inl, inr, length, take, drop, append-nil, ⊎_elim, true≢false, Some, None, refl, sym, ap, ◌∙◌, subst, arith, length-append}
use Rattle.std.specs.Prelude.{◌==◌, nat_le, nat_lt, if◌then◌else◌}
use Rattle.std.specs.List.{list_any}
use Rattle.std.specs.Str.Lines.{strip_carriage_return}
use Rattle.std.proofs.lemmas.Bool.Decides.{nat_tests}
use Rattle.std.proofs.lemmas.Grind.{common_steps}
use Rattle.scenario.specs.declared.cutter.Cut.{Cut}
use Rattle.scenario.specs.declared.cutter.Cutting.{Cutting}
use Rattle.scenario.specs.declared.cutter.Cutting.TheVariants.{More, Line, Long, Over}
use Rattle.scenario.specs.declared.cutter.Stop.TheVariants as stop
use Rattle.scenario.specs.Cutting.{Cuts, Lines, longest_line, most_lines, most_bytes, start, is_lf, is_over, is_long, grown, cut_off, stopped_by, after_byte, one_more, fed_bytes, fed_by, fed, ended, cut_before, lines_left, lines_by, lines_of}
use Rattle.script_run.specs.Pieces.{whole_part, bytes_before, Takes, takes_none, takes_more, takes_line, StandsAt, shown_lines}

-- ---- what is taken, by what a piece answers

one_suc : (n : ℕ) → suc n ≡ 1 + n
one_suc n = omega arith

abbrev over_at : Cuts → Cut × Cuts
over_at c = (record { used = 0; what = Over }, stopped_by stop.Over c)

abbrev TakesUsed : Cuts → List ℕ → Cut × Cuts → Type 0
TakesUsed c p f = (shown_lines f.0.what f.1).1 ≡ None → Takes c (take f.0.used p) (shown_lines f.0.what f.1).0 f.1

takes_step : (c : Cuts) (b : ℕ) (bs : List ℕ) (o : Bool) (w : Cutting × Cuts) (f : Cut × Cuts) → is_over c b ≡ o → after_byte c b ≡ w → TakesUsed w.1 bs f
    → TakesUsed c (b ∷ bs) (if o then over_at c else one_more w f)
takes_step c b bs true w f over is more = λ e. cc
takes_step c b bs false (More, d) f over is more = λ e.
    subst (λ k. Takes c (take k (b ∷ bs)) (shown_lines f.0.what f.1).0 f.1) (one_suc f.0.used)
    (takes_more c d f.1 b (take f.0.used bs) (shown_lines f.0.what f.1).0 over is (more e))
takes_step c b bs false (Line, d) f over is more = λ e. takes_line c d d b [] [] over is (takes_none d)
takes_step c b bs false (Long, d) f over is more = λ e. cc
takes_step c b bs false (Over, d) f over is more = λ e. cc

fed_bytes_takes : (c : Cuts) (p : List ℕ) → TakesUsed c p (fed_bytes c p)
fed_bytes_takes c [] = λ e. takes_none c
fed_bytes_takes c (b ∷ bs) = takes_step c b bs (is_over c b) (after_byte c b) (fed_bytes (after_byte c b).1 bs) refl refl (fed_bytes_takes (after_byte c b).1 bs)

-- ---- how much is taken

record UsesSome (p : List ℕ) (f : Cut × Cuts) : Type 0 where
  within : f.0.used ≤ length p
  some : (shown_lines f.0.what f.1).1 ≡ None → 0 < length p → 0 < f.0.used

uses_step : (c : Cuts) (b : ℕ) (bs : List ℕ) (o : Bool) (w : Cutting × Cuts) (f : Cut × Cuts) → UsesSome bs f → UsesSome (b ∷ bs) (if o then over_at c else one_more w f)
uses_step c b bs true w f uses = record { within = omega arith; some = λ e. cc }
uses_step c b bs false (More, d) f uses = record { within = omega (arith, uses.within); some = λ e some. omega arith }
uses_step c b bs false (Line, d) f uses = record { within = omega arith; some = λ e some. omega arith }
uses_step c b bs false (Long, d) f uses = record { within = omega arith; some = λ e. cc }
uses_step c b bs false (Over, d) f uses = record { within = omega arith; some = λ e. cc }

uses_some : (c : Cuts) (p : List ℕ) → UsesSome p (fed_bytes c p)
uses_some c [] = record { within = omega arith; some = λ e some. some }
uses_some c (b ∷ bs) = uses_step c b bs (is_over c b) (after_byte c b) (fed_bytes (after_byte c b).1 bs) (uses_some (after_byte c b).1 bs)

-- ---- the lines that are still to come

abbrev Follows : Cuts → List ℕ → List ℕ → Lines → Cut × Cuts → Type 0
Follows c p q lines f = lines ≡ cut_before (f.0.what, f.1) (lines_left f.1 (drop f.0.used p ++ q))

follows_step : (c : Cuts) (b : ℕ) (bs q : List ℕ) (o : Bool) (w : Cutting × Cuts) (f : Cut × Cuts) → Follows w.1 bs q (lines_left w.1 (bs ++ q)) f
    → Follows c (b ∷ bs) q (if o then ([], Some stop.Over) else cut_before w (lines_left w.1 (bs ++ q))) (if o then over_at c else one_more w f)
follows_step c b bs q true w f more = refl
follows_step c b bs q false (More, d) f more =
    subst (λ k. lines_left d (bs ++ q) ≡ cut_before (f.0.what, f.1) (lines_left f.1 (drop k (b ∷ bs) ++ q))) (one_suc f.0.used) more
follows_step c b bs q false (Line, d) f more = refl
follows_step c b bs q false (Long, d) f more = refl
follows_step c b bs q false (Over, d) f more = refl

lines_follow : (c : Cuts) (p q : List ℕ) → Follows c p q (lines_left c (p ++ q)) (fed_bytes c p)
lines_follow c [] q = refl
lines_follow c (b ∷ bs) q = follows_step c b bs q (is_over c b) (after_byte c b) (fed_bytes (after_byte c b).1 bs) (lines_follow (after_byte c b).1 bs q)

-- ---- of a script that didn't stop

abbrev pub put : List (List ℕ) → Lines → Lines
put whole lines = (whole ++ lines.0, lines.1)

-- the whole lines in what is taken come first
pub takes_lines : (c d : Cuts) (p q : List ℕ) (whole : List (List ℕ)) → Takes c p whole d → lines_left c (p ++ q) ≡ put whole (lines_left d q)
takes_lines c d p q whole (takes_none e) = refl
takes_lines c d p q whole (takes_more e f g b bs ls over is more) = let next = takes_lines f g bs q ls more in rw over (rw is next)
takes_lines c d p q whole (takes_line e f g b bs ls over is more) = let next = takes_lines f g bs q ls more in rw over (rw is (ap (λ l. cut_before (Line, f) l) next))

pub takes_both : (c d e : Cuts) (p q : List ℕ) (ls ms : List (List ℕ)) → Takes c p ls d → Takes d q ms e → Takes c (p ++ q) (ls ++ ms) e
takes_both c d e p q ls ms (takes_none f) second = second
takes_both c d e p q ls ms (takes_more f g h b bs rest over is more) second = takes_more f g e b (bs ++ q) (rest ++ ms) over is (takes_both g h e bs q rest ms more second)
takes_both c d e p q ls ms (takes_line f g h b bs rest over is more) second = takes_line f g e b (bs ++ q) (rest ++ ms) over is (takes_both g h e bs q rest ms more second)

-- ---- the same of what is fed

-- what a piece answers where the script didn't stop
pub record IsFedSo (c : Cuts) (p : List ℕ) (f : Cut × Cuts) : Type 0 where
  pub takes : (shown_lines f.0.what f.1).1 ≡ None → Takes c (take f.0.used p) (shown_lines f.0.what f.1).0 f.1
  pub within : f.0.used ≤ length p
  pub some : (shown_lines f.0.what f.1).1 ≡ None → 0 < length p → 0 < f.0.used
  pub follow : (q : List ℕ) → lines_left c (p ++ q) ≡ cut_before (f.0.what, f.1) (lines_left f.1 (drop f.0.used p ++ q))

fed_bytes_so : (c : Cuts) (p : List ℕ) → IsFedSo c p (fed_bytes c p)
fed_bytes_so c p = let uses = uses_some c p in record { takes = fed_bytes_takes c p; within = uses.within; some = uses.some; follow = lines_follow c p }

pub fed_so : (c : Cuts) (p : List ℕ) (f : Cut × Cuts) → c.stopped ≡ None → f ≡ fed c p → IsFedSo c p f
unfolding fed
fed_so c p f going is =
    subst (IsFedSo c p) (sym (is ∙ ap (λ s. fed_by s c p) going)) (fed_bytes_so c p)

pub lines_of_left : (c : Cuts) (bytes : List ℕ) → c.stopped ≡ None → lines_of c bytes ≡ lines_left c bytes
unfolding lines_of
lines_of_left c bytes going = ap (λ s. lines_by s c bytes) going

-- ---- where the script stands

abbrev shown_by : Bool → Bool → Cuts → ℕ → Cutting × Cuts
shown_by t u c b = if t then (Line, cut_off c) else (if u then (Long, stopped_by stop.Long (grown c b)) else (More, grown c b))

more_by : (t u : Bool) (c d : Cuts) (b : ℕ) (w : Cutting × Cuts) → w ≡ shown_by t u c b → w.0 ≡ More → (t ≡ false) × (u ≡ false) × (w.1 ≡ grown c b)
more_by true u c d b w is more = let e : Line ≡ More = sym (ap (λ (x : Cutting × Cuts). x.0) is) ∙ more in cc
more_by false true c d b w is more = let e : Long ≡ More = sym (ap (λ (x : Cutting × Cuts). x.0) is) ∙ more in cc
more_by false false c d b w is more = (refl, refl, ap (λ (x : Cutting × Cuts). x.1) is)

-- the byte ends no line, and the line that was begun isn't too long with it
more_is : (c d : Cuts) (b : ℕ) → after_byte c b ≡ (More, d) → (is_lf b ≡ false) × (is_long (c.begun ++ b ∷ []) ≡ false) × (d ≡ grown c b)
unfolding after_byte
more_is c d b is =
    let by = more_by (is_lf b) (is_long (c.begun ++ b ∷ [])) c d b (after_byte c b) refl (ap (λ (x : Cutting × Cuts). x.0) is) in
    (by.0, by.1, sym (ap (λ (x : Cutting × Cuts). x.1) is) ∙ by.2)

line_by : (t u : Bool) (c d : Cuts) (b : ℕ) (w : Cutting × Cuts) → w ≡ shown_by t u c b → w.0 ≡ Line → (t ≡ true) × (w.1 ≡ cut_off c)
line_by true u c d b w is line = (refl, ap (λ (x : Cutting × Cuts). x.1) is)
line_by false true c d b w is line = let e : Long ≡ Line = sym (ap (λ (x : Cutting × Cuts). x.0) is) ∙ line in cc
line_by false false c d b w is line = let e : More ≡ Line = sym (ap (λ (x : Cutting × Cuts). x.0) is) ∙ line in cc

line_is : (c d : Cuts) (b : ℕ) → after_byte c b ≡ (Line, d) → (is_lf b ≡ true) × (d ≡ cut_off c)
unfolding after_byte
line_is c d b is =
    let by = line_by (is_lf b) (is_long (c.begun ++ b ∷ [])) c d b (after_byte c b) refl (ap (λ (x : Cutting × Cuts). x.0) is) in
    (by.0, sym (ap (λ (x : Cutting × Cuts). x.1) is) ∙ by.1)

-- where the byte isn't past the limits, there is room for it, unless the line that was begun has 8,193 bytes
over_is : (c : Cuts) (b : ℕ) → is_over c b ≡ false → ((c.taken < most_bytes) × (c.number < most_lines)) ⊎ ((longest_line < length c.begun) × (is_lf b ≡ false))
unfolding is_over
over_is c b over = at (nat_le most_bytes c.taken) (nat_le most_lines c.number) (nat_lt longest_line (length c.begun)) (is_lf b) refl refl refl refl over where
  at : (t u v w : Bool) → nat_le most_bytes c.taken ≡ t → nat_le most_lines c.number ≡ u → nat_lt longest_line (length c.begun) ≡ v → is_lf b ≡ w
      → ((t || u) && not (v && not w)) ≡ false → ((c.taken < most_bytes) × (c.number < most_lines)) ⊎ ((longest_line < length c.begun) × (is_lf b ≡ false))
  at false false v w t u vv ww over = inl (grind (arith, nat_tests), grind (arith, nat_tests))
  at true u true false t uu v ww over = inr (grind (arith, nat_tests), ww)
  at false true true false t uu v ww over = inr (grind (arith, nat_tests), ww)
  at true u true true t uu v ww over = cc
  at true u false w t uu v ww over = cc
  at false true true true t uu v ww over = cc
  at false true false w t uu v ww over = cc

-- only one byte, a CR, is taken away
strip_one : (bytes : List ℕ) → length bytes ≤ length (strip_carriage_return bytes) + 1
strip_one bytes = grind (arith, common_steps)

-- one byte that is taken
record Stays (c d : Cuts) (more : ℕ) : Type 0 where
  going : c.stopped ≡ None → d.stopped ≡ None
  counted : d.number ≡ c.number + more
  few : c.number ≤ most_lines → d.number ≤ most_lines
  last : 0 < length d.begun → d.number < most_lines
  begun : length d.begun ≤ longest_line + 1
  taken : d.taken ≤ most_bytes
  gained : d.taken ≡ c.taken + 1

more_stays : (c d : Cuts) (b : ℕ) → is_over c b ≡ false → after_byte c b ≡ (More, d) → Stays c d 0
more_stays c d b over is =
    let shown = more_is c d b is in
    let long : length (strip_carriage_return (c.begun ++ b ∷ [])) ≤ longest_line = let e = shown.1 in grind (arith, nat_tests) in
    let all : length (c.begun ++ b ∷ []) ≤ longest_line + 1 = omega (arith, long, strip_one (c.begun ++ b ∷ [])) in
    let one = length-append c.begun (b ∷ []) in
    let room : (c.taken < most_bytes) × (c.number < most_lines) = ⊎_elim (λ r. r) (λ l. absurd (omega (arith, l.0, all, one))) (over_is c b over) in
    subst (λ (e : Cuts). Stays c e 0) (sym shown.2) (record {
      going = λ e. e;
      counted = omega arith;
      few = λ e. e;
      last = λ some. room.1;
      begun = all;
      taken = omega (arith, room.0);
      gained = refl;
    })

line_stays : (c d : Cuts) (b : ℕ) → is_over c b ≡ false → after_byte c b ≡ (Line, d) → Stays c d 1
line_stays c d b over is =
    let shown = line_is c d b is in
    let room : (c.taken < most_bytes) × (c.number < most_lines) = ⊎_elim (λ r. r) (λ l. absurd (true≢false (sym shown.0 ∙ l.1))) (over_is c b over) in
    subst (λ (e : Cuts). Stays c e 1) (sym shown.1) (record {
      going = λ e. e;
      counted = refl;
      few = λ e. omega (arith, room.1);
      last = λ some. absurd (omega (arith, some));
      begun = omega arith;
      taken = omega (arith, room.0);
      gained = refl;
    })

stands_on : (c d : Cuts) (n more : ℕ) → Stays c d more → StandsAt c n → StandsAt d (n + more)
stands_on c d n more stays at = record {
  going = stays.going at.going;
  counted = omega (arith, stays.counted, at.counted);
  few = stays.few at.few;
  last = stays.last;
  begun = stays.begun;
  taken = stays.taken;
}

pub takes_stands : (c d : Cuts) (p : List ℕ) (whole : List (List ℕ)) (n : ℕ) → Takes c p whole d → StandsAt c n → StandsAt d (n + length whole)
takes_stands c d p whole n (takes_none e) at = subst (StandsAt e) (omega arith) at
takes_stands c d p whole n (takes_more e f g b bs ls over is more) at =
    takes_stands f g bs ls n more (subst (StandsAt f) (omega arith) (stands_on e f n 0 (more_stays e f b over is) at))
takes_stands c d p whole n (takes_line e f g b bs ls over is more) at =
    subst (StandsAt g) (omega arith) (takes_stands f g bs ls (n + 1) more (stands_on e f n 1 (line_stays e f b over is) at))

pub takes_taken : (c d : Cuts) (p : List ℕ) (whole : List (List ℕ)) → Takes c p whole d → d.taken ≡ c.taken + length p
takes_taken c d p whole (takes_none e) = omega arith
takes_taken c d p whole (takes_more e f g b bs ls over is more) = let one = (more_stays e f b over is).gained in let rest = takes_taken f g bs ls more in omega (arith, one, rest)
takes_taken c d p whole (takes_line e f g b bs ls over is more) = let one = (line_stays e f b over is).gained in let rest = takes_taken f g bs ls more in omega (arith, one, rest)

-- ---- where the line begins that comes

-- behind the lines that were answered stand the bytes of the line that was begun
before_begun : (c d : Cuts) (p : List ℕ) (whole : List (List ℕ)) → Takes c p whole d
    → (length p ≤ bytes_before (length whole) p + length d.begun) × (whole ≡ [] → length c.begun + length p ≤ length d.begun)
before_begun c d p whole (takes_none e) = (omega arith, λ none. omega arith)
before_begun c d p whole (takes_more e f g b bs [] over is more) =
    let next = before_begun f g bs [] more in
    let shown = more_is e f b is in
    let one : length f.begun ≡ length e.begun + 1 = ap (λ (x : Cuts). length x.begun) shown.2 ∙ length-append e.begun (b ∷ []) in
    let all : length e.begun + length (b ∷ bs) ≤ length g.begun = omega (arith, one, next.1 refl) in
    (omega (arith, all), λ none. all)
before_begun c d p whole (takes_more e f g b bs (l ∷ ls) over is more) =
    let next = before_begun f g bs (l ∷ ls) more in
    let shown = more_is e f b is in
    (rw shown.0 (omega (arith, next.0)), λ none. cc)
before_begun c d p whole (takes_line e f g b bs ls over is more) =
    let next = before_begun f g bs ls more in
    let shown = line_is e f b is in
    (rw shown.0 (omega (arith, next.0)), λ none. cc)

pub takes_before : (c d : Cuts) (p : List ℕ) (whole : List (List ℕ)) → Takes c p whole d → length p ≤ bytes_before (length whole) p + length d.begun
takes_before c d p whole takes = (before_begun c d p whole takes).0

-- ---- the whole lines

-- bytes without LF end no line
no_end : (c d : Cuts) (p : List ℕ) (whole : List (List ℕ)) → Takes c p whole d → list_any is_lf p ≡ false → whole ≡ []
no_end c d p whole (takes_none e) none = refl
no_end c d p whole (takes_more e f g b bs ls over is more) none =
    let shown = more_is e f b is in
    no_end f g bs ls more (sym (ap (λ t. t || list_any is_lf bs) shown.0) ∙ none)
no_end c d p whole (takes_line e f g b bs ls over is more) none =
    let shown = line_is e f b is in
    absurd (true≢false (sym (ap (λ t. t || list_any is_lf bs) shown.0) ∙ none))

whole_none : (bs : List ℕ) → list_any is_lf bs ≡ false → whole_part bs ≡ []
whole_none [] none = refl
whole_none (b ∷ bs) none = rw none refl

-- where no line was begun, none is left at the end
ended_nothing : (c : Cuts) → c.begun ≡ [] → lines_left c [] ≡ ([], None)
unfolding ended
ended_nothing c none = rw none refl

behind_line : (c d : Cuts) (p : List ℕ) (whole : List (List ℕ)) (t : Bool) → Takes c p whole d → c.begun ≡ [] → list_any is_lf p ≡ t
    → (list_any is_lf p ≡ true → lines_left c (whole_part p) ≡ (whole, None)) → lines_left c (whole_part p) ≡ (whole, None)
behind_line c d p whole true takes begun is more = more is
behind_line c d p whole false takes begun is more =
    ap (lines_left c) (whole_none p is) ∙ ended_nothing c begun ∙ ap (λ (ls : List (List ℕ)). put ls ([], None)) (sym (no_end c d p whole takes is)) ∙ ap (λ (ls : List (List ℕ)). (ls, None)) (append-nil whole)

-- all bytes up to the last LF, if there is one, are just the whole lines
whole_lines : (c d : Cuts) (p : List ℕ) (whole : List (List ℕ)) → Takes c p whole d → list_any is_lf p ≡ true → lines_left c (whole_part p) ≡ (whole, None)
whole_lines c d p whole (takes_none e) some = cc
whole_lines c d p whole (takes_more e f g b bs ls over is more) some =
    let shown = more_is e f b is in
    let later : list_any is_lf bs ≡ true = sym (ap (λ t. t || list_any is_lf bs) shown.0) ∙ some in
    let next = whole_lines f g bs ls more later in
    rw some (rw over (rw is next))
whole_lines c d p whole (takes_line e f g b bs ls over is more) some =
    let shown = line_is e f b is in
    let next = behind_line f g bs ls (list_any is_lf bs) more (ap (λ (x : Cuts). x.begun) shown.1) refl (whole_lines f g bs ls more) in
    rw some (rw over (rw is (ap (λ l. cut_before (Line, f) l) next)))

-- so it is of a script from its start on
pub whole_cut : (d : Cuts) (p : List ℕ) (whole : List (List ℕ)) → Takes start p whole d → lines_of start (whole_part p) ≡ (whole, None)
whole_cut d p whole takes = lines_of_left start (whole_part p) refl ∙ behind_line start d p whole (list_any is_lf p) takes refl refl (whole_lines start d p whole takes)

-- ---- how many lines there are

few_step : (c : Cuts) (b : ℕ) (o : Bool) (w : Cutting × Cuts) (rest : Lines) → is_over c b ≡ o → after_byte c b ≡ w
    → (w.1.number ≤ most_lines → (0 < length w.1.begun → w.1.number < most_lines) → length rest.0 + w.1.number ≤ most_lines)
    → c.number ≤ most_lines → length (if o then ([], Some stop.Over) else cut_before w rest).0 + c.number ≤ most_lines
few_step c b true w rest over is more few = omega (arith, few)
few_step c b false (More, d) rest over is more few =
    let stays = more_stays c d b over is in let next = more (stays.few few) stays.last in omega (arith, next, stays.counted)
few_step c b false (Line, d) rest over is more few =
    let stays = line_stays c d b over is in let next = more (stays.few few) stays.last in omega (arith, next, stays.counted)
few_step c b false (Long, d) rest over is more few = omega (arith, few)
few_step c b false (Over, d) rest over is more few = omega (arith, few)

end_few : (c : Cuts) → c.number ≤ most_lines → (0 < length c.begun → c.number < most_lines) → length (lines_left c []).0 + c.number ≤ most_lines
unfolding ended
end_few c few last = at (length c.begun == 0) (nat_lt longest_line (length c.begun)) refl where
  at : (t u : Bool) → (length c.begun == 0) ≡ t
      → length (cut_before (if t then (More, c) else (if u then (Long, stopped_by stop.Long c) else (Line, record c { begun = []; line = c.begun; number = c.number + 1 }))) ([], None)).0 + c.number ≤ most_lines
  at true u is = omega (arith, few)
  at false true is = omega (arith, few)
  at false false is = let some : 0 < length c.begun = grind (arith, nat_tests) in omega (arith, last some)

left_few : (c : Cuts) (bytes : List ℕ) → c.number ≤ most_lines → (0 < length c.begun → c.number < most_lines) → length (lines_left c bytes).0 + c.number ≤ most_lines
left_few c [] few last = end_few c few last
left_few c (b ∷ bs) few last = few_step c b (is_over c b) (after_byte c b) (lines_left (after_byte c b).1 bs) refl refl (left_few (after_byte c b).1 bs) few

-- a script has at most 100,000 lines
pub lines_few : (script : List ℕ) → length (lines_of start script).0 ≤ most_lines
lines_few script =
    let few = left_few start script (omega arith) (λ some. absurd (omega (arith, some))) in
    rw (lines_of_left start script refl) (omega (arith, few))

pub start_stands : StandsAt start 1
start_stands = record {
  going = refl;
  counted = omega arith;
  few = omega arith;
  last = λ some. absurd (omega (arith, some));
  begun = omega arith;
  taken = omega arith;
}
