-- A term that the book's table takes: its tag is the one that is due, its value is good for it, and the next term is due, or the groups.
-- Assumes nothing.
use Rattle.std.specs.Prelude.{ℕ, ◌≡◌, refl, List, [], leb}
use Rattle.rules.specs.declared.Terms.{Terms}
use Rattle.rules.specs.Refusal as refusal
use Rattle.rules.specs.Text.{is}
use Rattle.rules.specs.Figures.{price_form, rate_form, figure_of}
use Rattle.rules.specs.Book.{Step, Next, refuse, Nobody, Term, DueD, DueX, DueS, DueL, DueU, DueV, AtTerm, InGroup, Stage, Reading, locked, with_decimals, settled, with_loss, with_edge1, with_edge2, step}
use Rattle.consequences.specs.Steps.{must_next, refuse_next}
use Rattle.sheets_promises.specs.Good.{figure_next, lock_next, places_next, a_figure}
use Rattle.sheets_promises.specs.Views.{Stepped, a_term, last_term, at}

pub term_view : (k : Term) (ts : Terms) (t : ℕ) (v : List ℕ) (st : Stage) → step (AtTerm k ts) t v ≡ Next st → Stepped (AtTerm k ts) t v st
unfolding step
term_view DueD ts t v st e =
    let (tag, r) = must_next (is "D" t) _ st e in
    let (bare, short, (d, n)) = lock_next v (λ d. Next (Reading (AtTerm DueX (locked ts d)))) st r in
    at (AtTerm DueD ts) "D" t v (Reading (AtTerm DueX (locked ts d))) st tag n (a_term refl bare short refl)
term_view DueX ts t v st e =
    let (tag, r) = must_next (is "X" t) _ st e in
    let (bare, short, (x, n)) = places_next v (λ x. Next (Reading (AtTerm DueS (with_decimals ts x)))) st r in
    at (AtTerm DueX ts) "X" t v (Reading (AtTerm DueS (with_decimals ts x))) st tag n (a_term refl bare short refl)
term_view DueS ts t v st e =
    let (tag, r) = must_next (is "S" t) _ st e in
    let (s, f, n) = figure_next (figure_of (price_form ts.decimals) v) (λ s. Next (Reading (AtTerm DueL (settled ts s)))) st r in
    let g = a_figure (price_form ts.decimals) v s f in
    at (AtTerm DueS ts) "S" t v (Reading (AtTerm DueL (settled ts s))) st tag n (a_term refl g g.figured.short refl)
term_view DueL ts t v st e =
    let (tag, r) = must_next (is "L" t) _ st e in
    let (l, f, n) = figure_next (figure_of rate_form v) (λ l. Next (Reading (AtTerm DueU (with_loss ts l)))) st r in
    let g = a_figure rate_form v l f in
    at (AtTerm DueL ts) "L" t v (Reading (AtTerm DueU (with_loss ts l))) st tag n (a_term refl g g.figured.short refl)
term_view DueU ts t v st e =
    let (tag, r) = must_next (is "U" t) _ st e in
    let (u, f, n) = figure_next (figure_of rate_form v) (λ u. Next (Reading (AtTerm DueV (with_edge1 ts u)))) st r in
    let g = a_figure rate_form v u f in
    at (AtTerm DueU ts) "U" t v (Reading (AtTerm DueV (with_edge1 ts u))) st tag n (a_term refl g g.figured.short refl)
term_view DueV ts t v st e =
    let (tag, r) = must_next (is "V" t) _ st e in
    let judged : ℕ → Step Stage = λ x. refuse refusal.edges (leb ts.edge1.0 x) (Next (Reading (InGroup (with_edge2 ts x) [] Nobody))) in
    let (x, f, k) = figure_next (figure_of rate_form v) judged st r in
    let (below, n) = refuse_next refusal.edges (leb ts.edge1.0 x) (Next (Reading (InGroup (with_edge2 ts x) [] Nobody))) st k in
    let g = a_figure rate_form v x f in
    at (AtTerm DueV ts) "V" t v (Reading (InGroup (with_edge2 ts x) [] Nobody)) st tag n (last_term g g.figured.short)
