mod Parting
