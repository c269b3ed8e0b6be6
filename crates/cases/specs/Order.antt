-- Document 01: "For one field: 2, 3, then (at C or Z after a customer) 9 for that customer, then 10, 4, 5, then 6 at V, 7 at C, 8 at Q."
-- Books that break two rules, and which of them decides.
-- Assumes nothing.
use Rattle.std.specs.Prelude.{List, [], ◌∷◌, ◌++◌, take}
use Rattle.rules.specs.Text.{bytes}
use Rattle.rules.specs.Report.{field}
use Rattle.cases.specs.Tables.{term, before_s, before_u, gold, sold, begins, held, end}
use Rattle.cases.specs.Case.{Case, refused_after}
use Rattle.cases.specs.Refusals.{idle, lacking, before_q}

unfoldable pub order : List Case
order =
    refused_after "2 before 3: a wrong tag whose value is cut" gold (bytes "Y" ++ (0 ∷ 1 ∷ [])) 2
    ∷ refused_after "2 before 4: a comma in an S that is cut" before_s (take 8 (term "S" "400,00")) 2
    ∷ refused_after "2 before 9: no field after the customer" (gold ++ lacking) [] 2
    ∷ refused_after "2 before 9: the C that closes is cut" (gold ++ lacking) (take 3 (begins (bytes "B"))) 2
    ∷ refused_after "3 before 4: a comma behind a wrong tag" gold (held "K" "1,0" ++ end) 3
    ∷ refused_after "3 before 9: K after the trades" (gold ++ lacking) (held "K" "1" ++ end) 3
    ∷ refused_after "9 before 3: bytes after the Z that closes" gold (lacking ++ end ++ (0 ∷ [])) 9
    ∷ refused_after "9 before 5: the C that closes is no code" gold (lacking ++ idle "a" ++ end) 9
    ∷ refused_after "9 before 5: the Z that closes has a value" gold (lacking ++ field "Z" (bytes "0")) 9
    ∷ refused_after "9 before 7: the C that closes was given" gold (lacking ++ idle "A" ++ end) 9
    ∷ refused_after "4 before 5: a comma in what is no figure" before_s (term "S" "x,") 4
    ∷ refused_after "4 before 8: a comma in a Q above K" (before_q "5" "0") (held "Q" "6,0" ++ end) 4
    ∷ refused_after "4 before 9: in the customer's own trade" (gold ++ lacking) (sold ", 1" ++ end) 4
    ∷ refused_after "5 before 3: Z with a value, and bytes after it" gold (field "Z" (bytes "0") ++ (0 ∷ [])) 5
    ∷ refused_after "5 before 6: V of no form" (before_u ++ term "U" "4.000") (term "V" "4.0" ++ end) 5
    ∷ refused_after "5 before 8: Q of no form" (before_q "5" "0") (held "Q" "06" ++ end) 5
    ∷ refused_after "5 before 9: in the customer's own trade" (gold ++ lacking) (sold "400.00" ++ end) 5
    ∷ []
